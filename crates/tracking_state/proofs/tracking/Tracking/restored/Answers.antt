use Rattle.tracking_state.proofs.Calls.{restored_is}
use Rattle.tracking_state.proofs.tracking.Tracking.restored.Goals as goal

pub returns : goal.returns
returns c log all one = restored_is c.args.snapshot.now c.body_of_one.result.now log c.empty-tracking.result c.note_all.new.self all one c.body_of_one.ensures c.empty-tracking.ensures c.in_ok-note_all.ensures
