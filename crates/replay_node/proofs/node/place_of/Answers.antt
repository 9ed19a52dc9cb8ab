use Rattle.replay_node.proofs.Links.{find_none_more}
use Rattle.replay_node.proofs.node.place_of.Goals as goal

pub loop-k-preserved : goal.loop-k-preserved
loop-k-preserved c = find_none_more c.args.number c.loop-k.k c.args.links.now c.index-links-k.result c.loop-k.invariant c.loop-k-test.true c.index-links-k.is c.if-link-number.false
