use Rattle.std.proofs.Common.{List, refl, subst, arith}
use Rattle.chunk_format.specs.declared.chunk.Chunk.{Chunk}
use Rattle.replication_laws.specs.Openings.{Agrees}
use Rattle.stream_cluster.specs.Opens.{AgreesWith}
use Rattle.stream_cluster.proofs.Opening.{one_more}
use Rattle.stream_cluster.proofs.whole.refuse_apart.Goals as goal

pub loop-other-preserved : goal.loop-other-preserved
loop-other-preserved c =
    let r = c.other-item.result in
    let other = c.as_slice-in-loop-other in
    let agrees = subst (λ (l : List Chunk). Agrees l r.chunks) c.as_slice.ensures (subst (Agrees c.as_slice.result.now) other.ensures (c.in_default.ensures.none refl)) in
    one_more (AgreesWith c.args.one.now) c.args.others.now c.loop-other.other-index r c.loop-other-test.true c.other-item.is agrees c.loop-other.invariant

pub returns-clause-ok : goal.returns-clause-ok
returns-clause-ok c = λ j lt. (let end = c.loop-other-test.false in c.loop-other.invariant j (omega (arith, lt, end)))
