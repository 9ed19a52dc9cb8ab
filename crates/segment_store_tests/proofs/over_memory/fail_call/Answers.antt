use Rattle.member_disk.specs.MemoryDisks.{state_of}
use Rattle.segment_store_tests.proofs.Standing.{looks_backed, set_looks}
use Rattle.segment_store_tests.proofs.over_memory.fail_call.Goals as goal

pub returns-clause-store : goal.returns-clause-store
returns-clause-store c = λ store backed.
    let old = c.args.disk.now in
    let new = c.fail_after.new.self in
    looks_backed store (state_of old.streams old.faults) (state_of new.streams new.faults) (λ chunks. c.stores_stay_backed.ensures.looks store chunks old new (set_looks _ _ old.streams new.streams old.faults new.faults _ c.fail_after.ensures.ok c.fail_after.ensures.err)) backed
