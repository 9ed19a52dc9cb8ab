use Rattle.member_disk.specs.MemoryDisks.{state_of}
use Rattle.gated_words_tests.proofs.Standing.{kept_pairs}
use Rattle.gated_words_tests.proofs.crashed.open_crashed.Goals as goal

pub returns : goal.returns
returns c = λ pairs has.
    let old = c.args.disk.now in
    let opened = c.open.new.disk in
    let left = c.crash.new.self in
    kept_pairs c.args.id pairs (state_of old.streams old.faults) (state_of opened.streams opened.faults) (state_of left.streams left.faults) c.open-2.result has (c.open.ensures.images tt) c.in_ok-crash.ensures.left (c.open-2.ensures.pairs tt)
