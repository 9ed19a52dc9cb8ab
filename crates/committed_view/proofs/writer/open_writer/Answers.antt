use Rattle.committed_view.proofs.Rules.{begins}
use Rattle.committed_view.proofs.writer.open_writer.Goals as goal

pub new-requires-clause-rule : goal.new-requires-clause-rule
new-requires-clause-rule g c = begins _ c.empty.ensures.0
