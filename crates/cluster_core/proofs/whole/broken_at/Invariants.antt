use Rattle.cluster_core.proofs.Breaking.{SoFar}
use Rattle.cluster_core.proofs.whole.broken_at.Given as goal

abbrev pub invariant-chunks : goal.invariant-chunks
invariant-chunks l = SoFar l.chunks l.chunk-index l.promise l.end l.epoch
