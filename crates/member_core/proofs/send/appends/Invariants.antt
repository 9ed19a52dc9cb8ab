use Rattle.std.proofs.Common.{◌≡◌}
use Rattle.member_core.proofs.Sends.{appended}
use Rattle.member_core.proofs.send.appends.Given as goal

abbrev pub invariant-loop-place : goal.invariant-loop-place
invariant-loop-place l = l.sent ≡ appended l.epoch l.previous l.chunk l.me l.place
