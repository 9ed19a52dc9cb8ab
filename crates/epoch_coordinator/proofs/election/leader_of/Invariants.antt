use Rattle.std.proofs.Common.{◌≡◌, ◌+◌, None, drop}
use Rattle.epoch_coordinator.specs.Coordinators.{best_from}
use Rattle.epoch_coordinator.proofs.election.leader_of.Given as goal

abbrev pub invariant-members : goal.invariant-members
invariant-members l = record {
  best : best_from l.number l.best (drop l.tail-index l.told) ≡ best_from 1 None l.told;
  number : l.number ≡ 1 + l.tail-index;
}
