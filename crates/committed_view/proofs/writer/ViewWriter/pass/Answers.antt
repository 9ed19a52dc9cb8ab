use Rattle.committed_view.proofs.Rules.{admits}
use Rattle.committed_view.proofs.writer.ViewWriter.pass.Goals as goal

pub reader-requires : goal.reader-requires
reader-requires g c = admits
