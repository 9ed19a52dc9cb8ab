use Rattle.gated_words_tests.proofs.Standing.{set_held, same_backs}
use Rattle.gated_words_tests.proofs.crashed.fail_call.Goals as goal

pub returns : goal.returns
returns c =
    let old = c.args.disk.now in
    let new = c.fail_after.new.self in
    same_backs old.streams new.streams old.faults new.faults (set_held _ _ old.streams new.streams _ c.fail_after.ensures.ok c.fail_after.ensures.err)
