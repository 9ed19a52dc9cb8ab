use Rattle.std.proofs.Common.{sym, ◌∙◌}
use Rattle.cluster_core.specs.Parts.{ends_behind}
use Rattle.cluster_core.proofs.Letters.{placed, not_placed}
use Rattle.cluster_core.proofs.committed.count_within.Goals as goal

pub returns-in-Some : goal.returns-in-Some
returns-in-Some c = placed (ends_behind c.args.end) c.args.chunks.now c.in-Some.place (sym c.first_behind.ensures ∙ c.in-Some.is)

pub returns-in-None : goal.returns-in-None
returns-in-None c = not_placed (ends_behind c.args.end) c.args.chunks.now (sym c.first_behind.ensures ∙ c.in-None.is)
