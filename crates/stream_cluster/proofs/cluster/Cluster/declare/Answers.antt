use Rattle.stream_cluster.proofs.Handing.{declares_so, declares_keeps}
use Rattle.stream_cluster.proofs.cluster.Cluster.declare.Goals as goal

pub invariant_of-self : goal.invariant_of-self
invariant_of-self c = (declares_keeps c.self.inside.limits c.self.inside.replicas c.self.inside.passes c.declare.new.self c.running-running.result c.args.session c.args.name.now c.declare.result c.running-running.ensures c.declare.ensures c.self.invariant.0, c.self.invariant.1)

pub returns-clause-step : goal.returns-clause-step
returns-clause-step c = declares_so c.self.inside.limits c.self.inside.replicas c.self.inside.passes c.declare.new.self c.running-running.result c.args.session c.args.name.now c.declare.result c.running-running.ensures c.declare.ensures c.args.self.now c.self.view_is
