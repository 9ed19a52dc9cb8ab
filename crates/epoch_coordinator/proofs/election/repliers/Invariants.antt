use Rattle.std.proofs.Common.{◌≡◌, ◌+◌, ◌≤◌, drop}
use Rattle.epoch_coordinator.specs.Coordinators.{repliers}
use Rattle.epoch_coordinator.proofs.election.repliers.Given as goal

abbrev pub invariant-loop-tail : goal.invariant-loop-tail
invariant-loop-tail l = record {
  sum : l.count + repliers (drop l.tail-index l.told) ≡ repliers l.told;
  few : l.count ≤ l.tail-index;
}
