use Rattle.std.proofs.Common.{◌≡◌, ◌+◌, ◌++◌, drop}
use Rattle.epoch_coordinator.specs.declared.message.Message.TheVariants as messages
use Rattle.epoch_coordinator.specs.Coordinators.{untold_from, to_each}
use Rattle.epoch_coordinator.proofs.election.stops.Given as goal

abbrev pub invariant-members : goal.invariant-members
invariant-members l = record {
  sent : l.sent ++ to_each (messages.Stop l.epoch) (untold_from l.number (drop l.tail-index l.told)) ≡ to_each (messages.Stop l.epoch) (untold_from 1 l.told);
  number : l.number ≡ 1 + l.tail-index;
}
