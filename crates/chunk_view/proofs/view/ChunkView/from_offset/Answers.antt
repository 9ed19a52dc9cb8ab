use Rattle.std.proofs.Common.{◌≡◌, ◌∷◌, drop, sym, ap, ◌∙◌, arith}
use Rattle.chunk_view.specs.Shown.{shown_entries, shown_by}
use Rattle.chunk_view.proofs.WalkLaws.{next_drops, passed_more, passed_up_to}
use Rattle.chunk_view.proofs.view.ChunkView.from_offset.Goals as goal

pub entries-preserved : goal.entries-preserved
entries-preserved c =
    let front = c.in-Some.ensures.front in
    let rest : c.next.new.self ≡ front.0 = next_drops c.next.result c.entries.views c.next.new.self c.next.ensures.steps ∙ ap (drop 1) front.1 in
    passed_more c.args.offset (shown_entries c.args.self.now) c.entries.views c.next.new.self (shown_by c.in-Some.view) c.entries.invariant (front.1 ∙ ap (λ more. shown_by c.in-Some.view ∷ more) (sym rest)) (omega arith)

pub returns-then-offset-end-clause-above : goal.returns-then-offset-end-clause-above
returns-then-offset-end-clause-above c =
    let front = c.in-Some.ensures.front in
    passed_up_to c.args.offset c.args.self.now.first c.args.self.now.entries c.entries.views front.0 (shown_by c.in-Some.view) c.entries.invariant front.1 (omega arith)
