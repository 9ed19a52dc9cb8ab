use Rattle.std.proofs.Common.{length}
use Rattle.replay_node.proofs.Laying.{Laying}
use Rattle.replay_node.proofs.output.lay_offer.Given as goal

abbrev pub invariant-loop-rest : goal.invariant-loop-rest
invariant-loop-rest l = Laying l.items l.rest l.fn.commits l.commits

abbrev pub decreases-loop-rest : goal.decreases-loop-rest
decreases-loop-rest l = length l.rest
