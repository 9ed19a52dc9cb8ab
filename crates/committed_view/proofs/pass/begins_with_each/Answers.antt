use Rattle.std.proofs.Common.{true≢false, refl, sym, subst}
use Rattle.chunk_format.specs.Logs.{GoesOn}
use Rattle.committed_view.specs.Published.{Chunks}
use Rattle.committed_view.proofs.Lists.{begins_at, begins_next}
use Rattle.committed_view.proofs.pass.begins_with_each.Goals as goal

pub returns-then-not-begins_with : goal.returns-then-not-begins_with
returns-then-not-begins_with c = (
  (λ is. absurd (true≢false (sym is))),
  (λ each. c.if-not-begins_with.ensures.1
      (subst (λ (t : Chunks). GoesOn t c.args.list.now) (sym c.chunks.ensures) (begins_at c.args.told.now c.args.list.now c.loop-note.note-index c.note-item.result c.loop-note-test.true c.note-item.is each))),
)

pub loop-note-preserved : goal.loop-note-preserved
loop-note-preserved c =
    begins_next c.args.told.now c.args.list.now c.loop-note.note-index c.note-item.result c.loop-note-test.true c.note-item.is c.loop-note.invariant
    (subst (λ (t : Chunks). GoesOn t c.args.list.now) c.chunks.ensures (c.if-not-begins_with.ensures.0 refl))
