use Rattle.member_core.proofs.RunLaws.{contains_by, contains_else}
use Rattle.member_core.proofs.search.contains.Goals as goal

pub returns-then-is_of_nothing : goal.returns-then-is_of_nothing
returns-then-is_of_nothing c = contains_by c.args.runs.now c.args.tail c.is_of_nothing.result c.is_of_nothing.ensures c.if-is_of_nothing.true

pub returns : goal.returns
returns c = contains_else c.args.runs.now c.args.tail c.is_of_nothing.result c.has_run.result c.is_of_nothing.ensures c.if-is_of_nothing.false c.has_run.ensures
