use Rattle.std.proofs.Common.{◌≡◌, ◌+◌, ◌≤◌, drop}
use Rattle.epoch_coordinator.specs.MemberSteps.{reaching}
use Rattle.member_core.proofs.commit.reaching.Given as goal

abbrev pub invariant-loop-reached : goal.invariant-loop-reached
invariant-loop-reached l = record {
  sum : l.count + reaching l.end (drop l.reached-index l.ends) ≡ reaching l.end l.ends;
  few : l.count ≤ l.reached-index;
}
