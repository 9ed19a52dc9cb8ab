use Rattle.std.proofs.Common.{List, sym, subst}
use Rattle.chunk_format.specs.declared.chunk.Chunk.{Chunk}
use Rattle.member_core.specs.Kept.{IsKnown}
use Rattle.stream_cluster.proofs.cluster.Cluster.greatest.Goals as goal

pub greatest-requires : goal.greatest-requires
greatest-requires c = subst (λ (l : List Chunk). IsKnown l c.self.inside.index.count c.self.inside.index.tracking) (sym c.list.ensures) c.self.invariant.1

pub invariant_of-self : goal.invariant_of-self
invariant_of-self c = (c.self.invariant.0, subst (λ (l : List Chunk). IsKnown l c.greatest.new.self.count c.greatest.new.self.tracking) c.list.ensures c.greatest.ensures.known)
