use Rattle.std.proofs.Common.{◌≡◌, ◌∙◌, ◌∷◌, [], ◌++◌}
use Rattle.member_core.specs.Kept.{with_run}
use Rattle.member_core.proofs.RunLaws.{same_epoch_at, other_epoch_at, no_epoch_at}
use Rattle.member_core.proofs.runs.add_run.Goals as goal
use Rattle.member_core.proofs.runs.add_run.Goals.{then-len-gt0+else-index-run, else-len-gt0}

pub returns-then-index-run-clause-ok : goal.returns-then-index-run-clause-ok
returns-then-index-run-clause-ok c =
    same_epoch_at c.args.runs.now.items c.args.run c.index.result.now c.len-len.result (c.len-len.ensures ∙ c.args.runs.now.ok.0) c.if-len-gt0.true c.index.ensures c.if-index-run.true

pub returns-in-Ok-clause-ok : goal.returns-in-Ok-clause-ok
returns-in-Ok-clause-ok c =
    let runs = c.args.runs.now.items in
    let len = c.len-len.ensures ∙ c.args.runs.now.ok.0 in
    let added : runs ++ c.args.run ∷ [] ≡ with_run runs c.args.run = elim c.if-len-gt0.branch [
      | then-len-gt0+else-index-run w ↦ other_epoch_at runs c.args.run w.index.result.now c.len-len.result len w.if-len-gt0.true w.index.ensures w.if-index-run.false
      | else-len-gt0 w ↦ no_epoch_at runs c.args.run c.len-len.result len w.if-len-gt0.false
    ] in
    c.in-Ok.ensures.items ∙ added
