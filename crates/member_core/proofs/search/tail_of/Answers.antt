use Rattle.std.proofs.Common.{◌∙◌}
use Rattle.member_core.proofs.EndLaws.{tail_last}
use Rattle.member_core.proofs.search.tail_of.Goals as goal

pub returns : goal.returns
returns c = c.tail_after.ensures ∙ tail_last c.args.log.now c.index-log-len.result c.if-len-eq0.false c.index-log-len.is
