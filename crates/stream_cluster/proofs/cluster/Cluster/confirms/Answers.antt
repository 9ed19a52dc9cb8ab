use Rattle.stream_cluster.proofs.Handing.{hand_keeps, hands_so}
use Rattle.stream_cluster.proofs.cluster.Cluster.confirms.Goals as goal

pub invariant_of-self : goal.invariant_of-self
invariant_of-self c = (hand_keeps c.self.inside.limits c.self.inside.replicas c.self.inside.passes c.args.session c.hand.new.self c.hand.result c.hand.ensures.ok c.hand.ensures.err c.self.invariant.0, c.self.invariant.1)

pub returns : goal.returns
returns c = hands_so c.self.inside.limits c.self.inside.replicas c.self.inside.passes c.args.session c.args.self.now c.self.view_is c.hand.new.self c.hand.result c.hand.ensures.out c.hand.ensures.ok c.hand.ensures.err
