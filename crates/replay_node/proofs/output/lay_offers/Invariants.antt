use Rattle.std.proofs.Common.{take}
use Rattle.replay_node.proofs.Laying.{IsLaidOut}
use Rattle.replay_node.specs.NodeState.{offer_pieces}
use Rattle.replay_node.proofs.output.lay_offers.Given as goal

abbrev pub invariant-loop-offer : goal.invariant-loop-offer
invariant-loop-offer l = IsLaidOut l.end l.commits (offer_pieces (take l.offer-index l.offers))
