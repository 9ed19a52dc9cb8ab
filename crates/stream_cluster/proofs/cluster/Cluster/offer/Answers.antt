use Rattle.stream_cluster.proofs.Indexing.{known_led}
use Rattle.stream_cluster.specs.Served.{served}
use Rattle.stream_cluster.proofs.Offering.{runs_so, goes_last}
use Rattle.stream_cluster.proofs.Bringing.{is_useful, useless, no_room, came_of}
use Rattle.stream_cluster.proofs.cluster.Cluster.offer.Goals as goal

pub returns-then-not-is_of_use-clause-brings : goal.returns-then-not-is_of_use-clause-brings
returns-then-not-is_of_use-clause-brings c = (useless c.self.inside.limits c.self.inside.replicas c.self.inside.passes c.args.self.now c.self.view_is c.self.invariant.0 c.args.pass.now c.args.items.now c.args.now c.running-running.result c.running-running.ensures c.is_of_use.result c.is_of_use.ensures c.stale.result c.if-not-is_of_use.true c.stale.ensures).brings

pub returns-then-not-is_of_use-clause-step : goal.returns-then-not-is_of_use-clause-step
returns-then-not-is_of_use-clause-step c = (useless c.self.inside.limits c.self.inside.replicas c.self.inside.passes c.args.self.now c.self.view_is c.self.invariant.0 c.args.pass.now c.args.items.now c.args.now c.running-running.result c.running-running.ensures c.is_of_use.result c.is_of_use.ensures c.stale.result c.if-not-is_of_use.true c.stale.ensures).step

pub given-requires : goal.given-requires
given-requires c = (is_useful c.self.inside.limits c.self.inside.replicas c.self.inside.passes c.args.self.now c.self.view_is c.self.invariant.0 c.args.pass.now c.args.items.now c.args.now c.running-running.result c.running-running.ensures c.is_of_use.result c.is_of_use.ensures c.if-not-is_of_use.false).1

pub returns-in-Err-clause-brings : goal.returns-in-Err-clause-brings
returns-in-Err-clause-brings c = (no_room c.self.inside.limits c.self.inside.replicas c.self.inside.passes c.args.self.now c.self.view_is c.self.invariant.0 c.args.pass.now c.args.items.now c.args.now c.running-running.result c.running-running.ensures c.is_of_use.result c.is_of_use.ensures).brings

pub returns-in-Err-clause-step : goal.returns-in-Err-clause-step
returns-in-Err-clause-step c = (no_room c.self.inside.limits c.self.inside.replicas c.self.inside.passes c.args.self.now c.self.view_is c.self.invariant.0 c.args.pass.now c.args.items.now c.args.now c.running-running.result c.running-running.ensures c.is_of_use.result c.is_of_use.ensures).step

pub offer-requires-clause-runs : goal.offer-requires-clause-runs
offer-requires-clause-runs c = (c.args.pass.now.epoch, runs_so c.self.inside.replicas.cluster c.args.pass.now.epoch c.self.invariant.0.stream (is_useful c.self.inside.limits c.self.inside.replicas c.self.inside.passes c.args.self.now c.self.view_is c.self.invariant.0 c.args.pass.now c.args.items.now c.args.now c.running-running.result c.running-running.ensures c.is_of_use.result c.is_of_use.ensures c.if-not-is_of_use.false).0)

pub offer-requires-clause-short : goal.offer-requires-clause-short
offer-requires-clause-short c = c.in-Ok.ensures.2

pub offer-requires-clause-few : goal.offer-requires-clause-few
offer-requires-clause-few c = c.requires.few

pub offer-requires-clause-last : goal.offer-requires-clause-last
offer-requires-clause-last c = goes_last (served c.self.inside.limits c.self.inside.replicas c.self.inside.passes) c.self.invariant.0 c.args.pass.now c.args.items.now c.args.now c.in-Ok.given (is_useful c.self.inside.limits c.self.inside.replicas c.self.inside.passes c.args.self.now c.self.view_is c.self.invariant.0 c.args.pass.now c.args.items.now c.args.now c.running-running.result c.running-running.ensures c.is_of_use.result c.is_of_use.ensures c.if-not-is_of_use.false).0 c.in-Ok.ensures.1 c.in-Ok.ensures.0 c.in-Ok.ensures.2 c.requires.some c.requires.few

pub invariant_of-self : goal.invariant_of-self
invariant_of-self c = ((came_of c.self.inside.limits c.self.inside.replicas c.self.inside.passes c.args.self.now c.self.view_is c.self.invariant.0 c.args.pass.now c.args.items.now c.args.now c.running-running.result c.running-running.ensures c.is_of_use.result c.is_of_use.ensures c.in-Ok.given c.if-not-is_of_use.false c.in-Ok.ensures.0 c.in-Ok.ensures.1 c.in-Ok.ensures.2 c.requires.some c.requires.few c.offer.result c.offer.ensures.0 c.offer.new.self c.offer.new.passes c.offer.ensures.1 c.offer.ensures.2).holds, known_led c.self.inside.replicas c.offer.new.self c.offer.ensures.0 c.self.inside.index.count c.self.inside.index.tracking c.offer.ensures.2 c.self.invariant.1)

pub returns-clause-brings : goal.returns-clause-brings
returns-clause-brings c = (came_of c.self.inside.limits c.self.inside.replicas c.self.inside.passes c.args.self.now c.self.view_is c.self.invariant.0 c.args.pass.now c.args.items.now c.args.now c.running-running.result c.running-running.ensures c.is_of_use.result c.is_of_use.ensures c.in-Ok.given c.if-not-is_of_use.false c.in-Ok.ensures.0 c.in-Ok.ensures.1 c.in-Ok.ensures.2 c.requires.some c.requires.few c.offer.result c.offer.ensures.0 c.offer.new.self c.offer.new.passes c.offer.ensures.1 c.offer.ensures.2).brings

pub returns-clause-step : goal.returns-clause-step
returns-clause-step c = (came_of c.self.inside.limits c.self.inside.replicas c.self.inside.passes c.args.self.now c.self.view_is c.self.invariant.0 c.args.pass.now c.args.items.now c.args.now c.running-running.result c.running-running.ensures c.is_of_use.result c.is_of_use.ensures c.in-Ok.given c.if-not-is_of_use.false c.in-Ok.ensures.0 c.in-Ok.ensures.1 c.in-Ok.ensures.2 c.requires.some c.requires.few c.offer.result c.offer.ensures.0 c.offer.new.self c.offer.new.passes c.offer.ensures.1 c.offer.ensures.2).step
