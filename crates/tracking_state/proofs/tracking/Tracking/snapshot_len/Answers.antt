use Rattle.tracking_state.proofs.Calls.{len_is}
use Rattle.tracking_state.proofs.tracking.Tracking.snapshot_len.Goals as goal

pub returns-clause-log : goal.returns-clause-log
returns-clause-log c log tracks = len_is c.self.inside.len c.self.inside.references c.self.inside.consumers c.args.self.now log c.self.invariant c.self.view_is tracks
