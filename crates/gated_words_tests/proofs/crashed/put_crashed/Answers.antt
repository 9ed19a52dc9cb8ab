use Rattle.member_disk.specs.MemoryDisks.{state_of}
use Rattle.gated_words_tests.proofs.Standing.{found_pairs, put_leaves}
use Rattle.gated_words_tests.proofs.crashed.put_crashed.Goals as goal

pub returns-clause-found : goal.returns-clause-found
returns-clause-found c =
    let old = c.args.disk.now in
    let put = c.put.new.disk in
    let left = c.crash.new.self in
    let most = put_leaves c.args.gated.now c.args.id c.args.pair (state_of old.streams old.faults) (state_of put.streams put.faults) (state_of left.streams left.faults) c.requires.id c.requires.sure c.requires.backs (c.put.ensures.images tt) c.in_ok-crash.ensures.left in
    found_pairs c.args.gated.now.pairs c.args.id c.args.pair (state_of left.streams left.faults) c.open.result most (c.open.ensures.pairs tt)

pub returns-clause-undamaged : goal.returns-clause-undamaged
returns-clause-undamaged c =
    let old = c.args.disk.now in
    let put = c.put.new.disk in
    let left = c.crash.new.self in
    let most = put_leaves c.args.gated.now c.args.id c.args.pair (state_of old.streams old.faults) (state_of put.streams put.faults) (state_of left.streams left.faults) c.requires.id c.requires.sure c.requires.backs (c.put.ensures.images tt) c.in_ok-crash.ensures.left in
    c.open.ensures.undamaged tt most.opens
