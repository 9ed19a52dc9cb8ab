use Rattle.std.proofs.Common.{◌≡◌, map, ◌++◌, take, drop}
use Rattle.session_core.specs.Ending.{kept_slot}
use Rattle.session_core.proofs.ending.clear.Given as goal

abbrev pub invariant-loop-slot : goal.invariant-loop-slot
invariant-loop-slot l = l.slots ≡ map (kept_slot l.stream l.running) (take l.slot-index l.initial.slots) ++ drop l.slot-index l.initial.slots
