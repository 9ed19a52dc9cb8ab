use Rattle.committed_view.proofs.Rules.{looks}
use Rattle.committed_view.proofs.Looked.{missed}
use Rattle.left_right.specs.Sides.{view}
use Rattle.committed_view.proofs.pass.entered.Goals as goal

pub enter_as-requires : goal.enter_as-requires
enter_as-requires c = looks _ _ c.requires

pub returns-else-begins_with_each : goal.returns-else-begins_with_each
returns-else-begins_with_each c = missed (view c.args.reader.place) c.in_ok-reading.reading.part.value (view c.in_ok-reading.reading.place) (view c.leave.result.place) c.in_ok-reading.ensures.1 c.leave.ensures.1
