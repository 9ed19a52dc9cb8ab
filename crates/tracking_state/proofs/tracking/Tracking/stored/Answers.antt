use Rattle.tracking_state.proofs.Calls.{stored_is}
use Rattle.tracking_state.proofs.tracking.Tracking.stored.Goals as goal

pub returns : goal.returns
returns c log is = stored_is c.get.result c.self.inside.references c.self.inside.consumers c.args.self.now c.args.name.now log c.get.ensures c.self.view_is is
