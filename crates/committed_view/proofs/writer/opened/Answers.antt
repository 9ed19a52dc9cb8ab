use Rattle.std.proofs.Common.{Bool, fold, sym, ap, ◌∙◌, subst, drop}
use Rattle.left_right.specs.Sides.{view}
use Rattle.crossbeam_utils.specs.Register.{TurnsAt}
use Rattle.committed_view.specs.declared.shown.View.{View}
use Rattle.committed_view.specs.Published.{Chunks}
use Rattle.committed_view.specs.Rule.{Keeps, Opens, applied_batch}
use Rattle.committed_view.proofs.Rules.{opens}
use Rattle.committed_view.proofs.Writers.{opened_is}
use Rattle.committed_view.proofs.writer.opened.Goals as goal

pub publish_as-requires : goal.publish_as-requires
publish_as-requires g c next is =
    let x = c.args.writer.desk.shown.value in
    let pending = drop c.args.writer.behind c.args.writer.log.items in
    let all = is ∙ (ap (λ (s : Chunks × Bool). fold applied_batch s pending) (λ i. (c.requires.shown.0 i, c.requires.shown.1 i)) ∙ c.requires.pending) in
    subst (λ (v : View). TurnsAt Keeps c.args.writer.desk.place.id v x next Opens) (sym c.requires.seat)
    (opens c.args.writer.desk.place.id x next c.requires.shown.1 (ap (λ (p : Chunks × Bool). p.0) all) (ap (λ (p : Chunks × Bool). p.1) all))

pub returns-clause-opened : goal.returns-clause-opened
returns-clause-opened g c =
    let x = c.args.writer.desk.shown.value in
    let pending = drop c.args.writer.behind c.args.writer.log.items in
    opened_is c.publish_as.result.1 _ _ (view c.args.writer.desk.place) (view c.publish_as.result.0.desk.place) x c.publish_as.result.0.desk.shown.value
    (fold applied_batch (x.chunks.items, x.begun) pending) (drop c.publish_as.result.0.behind c.publish_as.result.0.log.items)
    c.publish_as.ensures.values c.publish_as.ensures.rule
    (ap (λ (s : Chunks × Bool). fold applied_batch s pending) (λ i. (c.requires.shown.0 i, c.requires.shown.1 i)) ∙ c.requires.pending)
