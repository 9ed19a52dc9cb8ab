use Rattle.std.proofs.Common.{◌≡◌, ◌+◌, ◌^◌, ◌<◌, drop}
use Rattle.epoch_coordinator.specs.Coordinators.{electors_of}
use Rattle.epoch_coordinator.proofs.Telling.{bits_from}
use Rattle.epoch_coordinator.proofs.election.electors_of.Given as goal

abbrev pub invariant-members : goal.invariant-members
invariant-members l = record {
  sum : l.bits + bits_from l.bit (drop l.tail-index l.told) ≡ electors_of l.told;
  below : l.bits < l.bit;
  bit : l.bit ≡ 2 ^ l.tail-index;
}
