use Rattle.std.proofs.Common.{◌∙◌}
use Rattle.tracking_state.proofs.Restored.{tracked}
use Rattle.tracking_state.proofs.Calls.{offsets_right, written_is, body_of_log}
use Rattle.tracking_state.proofs.tracking.Tracking.snapshot_body.Goals as goal

pub put_consumers-requires : goal.put_consumers-requires
put_consumers-requires c = offsets_right c.self.inside.len (tracked c.self.inside.references c.self.inside.consumers) c.self.invariant

pub returns-clause-body : goal.returns-clause-body
returns-clause-body c =
    written_is c.self.inside.references c.self.inside.consumers c.args.self.now c.new-body.result c.put_references.new.out c.put_consumers.new.out c.self.view_is c.new-body.ensures c.in_ok-put_references.ensures
    c.in_ok-put_consumers.ensures

pub returns-clause-log : goal.returns-clause-log
returns-clause-log c log tracks =
    written_is c.self.inside.references c.self.inside.consumers c.args.self.now c.new-body.result c.put_references.new.out c.put_consumers.new.out c.self.view_is c.new-body.ensures c.in_ok-put_references.ensures
    c.in_ok-put_consumers.ensures
    ∙ body_of_log c.args.self.now log tracks
