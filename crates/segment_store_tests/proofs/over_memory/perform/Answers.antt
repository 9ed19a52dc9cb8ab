use Rattle.member_disk.specs.MemoryDisks.{state_of}
use Rattle.segment_store.specs.Stores.{log_after}
use Rattle.segment_store_tests.proofs.Standing.{done_backed}
use Rattle.segment_store_tests.proofs.over_memory.perform.Goals as goal

pub returns : goal.returns
returns c =
    let (chunks, backed) = c.requires in
    let new = c.perform.new.disk in
    done_backed c.perform.result c.perform.new.self (log_after c.args.job.now chunks) (state_of new.streams new.faults) (c.perform.ensures.done tt chunks backed)
