use Rattle.replay_node.proofs.NodeSteps.{commits_queue}
use Rattle.replay_node.proofs.node.Node.settle.Goals as goal

pub commit-requires : goal.commit-requires
commit-requires c =
    commits_queue c.args.self.now c.self.inside c.in-Ok.commits c.as_slice.result.now c.self.view_is c.self.invariant c.as_slice.ensures.value c.in-Ok.ensures.chunks c.in-Ok.ensures.end
