use Rattle.std.proofs.Common.{[], Bool, ap, ◌∙◌, drop}
use Rattle.left_right.specs.Sides.{view}
use Rattle.committed_view.specs.Published.{Chunks}
use Rattle.committed_view.specs.Writing.{last_chunks}
use Rattle.committed_view.proofs.Rules.{publishes}
use Rattle.committed_view.proofs.Folds.{fold_pending}
use Rattle.committed_view.proofs.Writers.{shown_is, shown_more}
use Rattle.committed_view.proofs.writer.shown.Goals as goal

pub publish_as-requires : goal.publish_as-requires
publish_as-requires g c next is =
    let x = c.args.writer.desk.shown.value in
    let pending = drop c.args.writer.behind c.args.writer.log.items in
    let all = is ∙ fold_pending x.chunks.items x.begun pending c.requires.begun c.requires.undone in
    publishes c.args.writer.desk.place.id (view c.args.writer.desk.place) x next c.requires.writes (last_chunks [] pending, ap (λ (p : Chunks × Bool). p.0) all) (ap (λ (p : Chunks × Bool). p.1) all)

pub returns-clause-writer : goal.returns-clause-writer
returns-clause-writer g c =
    shown_is (view c.args.writer.desk.place) (view c.publish_as.result.0.desk.place) c.args.writer.desk.shown.value c.publish_as.result.0.desk.shown.value
    (drop c.args.writer.behind c.args.writer.log.items) (drop c.publish_as.result.0.behind c.publish_as.result.0.log.items)
    c.publish_as.result.1 c.publish_as.ensures.values c.publish_as.ensures.rule c.requires

pub returns-clause-ok : goal.returns-clause-ok
returns-clause-ok g c =
    shown_more (view c.args.writer.desk.place) (view c.publish_as.result.0.desk.place) c.args.writer.desk.shown.value c.publish_as.result.0.desk.shown.value
    (drop c.args.writer.behind c.args.writer.log.items) (drop c.publish_as.result.0.behind c.publish_as.result.0.log.items)
    c.publish_as.result.1 c.publish_as.ensures.values c.publish_as.ensures.rule c.requires
