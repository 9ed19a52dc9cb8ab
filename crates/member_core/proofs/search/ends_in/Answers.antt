use Rattle.std.proofs.Common.{◌∙◌, ap}
use Rattle.std.specs.Prelude.{◌==◌}
use Rattle.epoch_coordinator.specs.declared.tail.Tail.{Tail}
use Rattle.member_core.proofs.EndLaws.{ends_last}
use Rattle.member_core.proofs.search.ends_in.Goals as goal

pub returns : goal.returns
returns c = ap (λ (t : Tail). t.epoch == c.args.epoch) c.tail_after.ensures ∙ ends_last c.args.epoch c.args.log.now c.index-log-len.result c.if-len-eq0.false c.index-log-len.is
