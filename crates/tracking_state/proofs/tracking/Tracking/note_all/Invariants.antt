use Rattle.std.proofs.Common.{◌-◌, length}
use Rattle.tracking_state.proofs.Reading.{Noted}
use Rattle.tracking_state.proofs.tracking.Tracking.note_all.Given as goal

abbrev pub invariant-items : goal.invariant-items
invariant-items l = Noted l.body l.at l.fn.self l.self

abbrev pub decreases-items : goal.decreases-items
decreases-items l = length l.body - l.at
