use Rattle.stream_cluster.proofs.Indexing.{known_led}
use Rattle.std.proofs.Common.{sym, ◌∙◌}
use Rattle.stream_cluster.proofs.Offering.{runs_so}
use Rattle.stream_cluster.proofs.Bringing.{none_runs, offset_came_of}
use Rattle.stream_cluster.proofs.cluster.Cluster.store_offset.Goals as goal

pub returns-in_default-clause-brings : goal.returns-in_default-clause-brings
returns-in_default-clause-brings c = (none_runs c.self.inside.limits c.self.inside.replicas c.self.inside.passes c.args.self.now c.self.view_is c.self.invariant.0 c.args.name.now c.args.offset c.args.now (sym c.running.ensures ∙ c.in_default.is)).brings

pub returns-in_default-clause-step : goal.returns-in_default-clause-step
returns-in_default-clause-step c = (none_runs c.self.inside.limits c.self.inside.replicas c.self.inside.passes c.args.self.now c.self.view_is c.self.invariant.0 c.args.name.now c.args.offset c.args.now (sym c.running.ensures ∙ c.in_default.is)).step

pub store_offset-requires : goal.store_offset-requires
store_offset-requires c = record { runs = (c.in-Some._running, runs_so c.self.inside.replicas.cluster c.in-Some._running c.self.invariant.0.stream (sym c.running.ensures ∙ c.in-Some.is)) }

pub invariant_of-self : goal.invariant_of-self
invariant_of-self c = ((offset_came_of c.self.inside.limits c.self.inside.replicas c.self.inside.passes c.args.self.now c.self.view_is c.self.invariant.0 c.args.name.now c.args.offset c.args.now c.in-Some._running (sym c.running.ensures ∙ c.in-Some.is) c.store_offset.result c.store_offset.ensures.0 c.store_offset.new.self c.store_offset.ensures.1 c.store_offset.ensures.2).holds, known_led c.self.inside.replicas c.store_offset.new.self c.store_offset.ensures.0 c.self.inside.index.count c.self.inside.index.tracking c.store_offset.ensures.2 c.self.invariant.1)

pub returns-clause-brings : goal.returns-clause-brings
returns-clause-brings c = (offset_came_of c.self.inside.limits c.self.inside.replicas c.self.inside.passes c.args.self.now c.self.view_is c.self.invariant.0 c.args.name.now c.args.offset c.args.now c.in-Some._running (sym c.running.ensures ∙ c.in-Some.is) c.store_offset.result c.store_offset.ensures.0 c.store_offset.new.self c.store_offset.ensures.1 c.store_offset.ensures.2).brings

pub returns-clause-step : goal.returns-clause-step
returns-clause-step c = (offset_came_of c.self.inside.limits c.self.inside.replicas c.self.inside.passes c.args.self.now c.self.view_is c.self.invariant.0 c.args.name.now c.args.offset c.args.now c.in-Some._running (sym c.running.ensures ∙ c.in-Some.is) c.store_offset.result c.store_offset.ensures.0 c.store_offset.new.self c.store_offset.ensures.1 c.store_offset.ensures.2).step
