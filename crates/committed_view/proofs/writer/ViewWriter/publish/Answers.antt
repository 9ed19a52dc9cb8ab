use Rattle.std.proofs.Common.{◌≡◌, [], length, drop, sym, ap, ◌∙◌, subst}
use Rattle.left_right.specs.Sides.{view}
use Rattle.committed_view.specs.declared.shown.Shown.{Shown}
use Rattle.committed_view.specs.declared.shown.View.{View}
use Rattle.committed_view.specs.declared.shown.Batch.{Batch}
use Rattle.committed_view.specs.Published.{Published, with_publish}
use Rattle.committed_view.specs.Writing.{IsWriter, last_chunks}
use Rattle.committed_view.proofs.Writers.{pushed, ok_then}
use Rattle.committed_view.proofs.Folds.{last_pushed}
use Rattle.committed_view.proofs.writer.ViewWriter.publish.Goals as goal

pub replace_with-requires : goal.replace_with-requires
replace_with-requires g c =
    let old = c.self.inside.writer in
    let batch : Batch = record { keep = length c.as_slice.result.now; chunks = c.in_ok-shares_of.field-0 } in
    let keeps : batch.keep ≡ length old.desk.shown.value.chunks.items = ap length c.as_slice.ensures.value ∙ ap (λ (x : Shown). length x.chunks.items) c.published.ensures in
    subst (λ desk. IsWriter (view desk.place) desk.shown.value (drop c.append.new.self.behind c.append.new.self.log.items)) (sym c.in-Ok.ensures.desk)
    (pushed (view old.desk.place) old.desk.shown.value (drop old.behind old.log.items) (drop c.append.new.self.behind c.append.new.self.log.items) batch c.self.invariant keeps c.in-Ok.ensures.pending)

pub returns-clause-ok : goal.returns-clause-ok
returns-clause-ok g c =
    let old = c.self.inside.writer in
    let batch : Batch = record { keep = length c.as_slice.result.now; chunks = c.in_ok-shares_of.field-0 } in
    let pending = drop old.behind old.log.items in
    let published : (view c.append.new.self.desk.place).published ≡ c.args.self.now = subst (λ desk. (view {T = Shown} {V = View} desk.place).published ≡ c.args.self.now) (sym c.in-Ok.ensures.desk) c.self.view_is in
    let last : last_chunks [] (drop c.append.new.self.behind c.append.new.self.log.items) ≡ c.args.chunks.now =
    ap (last_chunks []) c.in-Ok.ensures.pending ∙ (last_pushed [] pending batch ∙ c.in_ok-shares_of.ensures) in
    ok_then c.replace_with.result
    (λ is. is ∙ (ap (λ (p : Published). with_publish p (last_chunks [] (drop c.append.new.self.behind c.append.new.self.log.items))) published ∙ ap (with_publish c.args.self.now) last))
    c.replace_with.ensures.1.0
