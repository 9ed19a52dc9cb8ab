use Rattle.member_core.proofs.Sends.{appended_more}
use Rattle.member_core.proofs.send.appends.Goals as goal

pub loop-place-preserved : goal.loop-place-preserved
loop-place-preserved c =
    appended_more c.args.epoch c.args.previous c.args.chunk.now c.args.me c.loop-place.place c.loop-place.sent c.push_append.new.sent c.loop-place.invariant c.in_ok-push_append.ensures
