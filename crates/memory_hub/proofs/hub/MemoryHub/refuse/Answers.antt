use Rattle.memory_hub.specs.Hubs.{hub_of}
use Rattle.memory_hub.proofs.Does.{refused_so, refused_so_holds}
use Rattle.memory_hub.proofs.hub.MemoryHub.refuse.Goals as goal

pub invariant_of-self : goal.invariant_of-self
invariant_of-self c = (refused_so_holds (hub_of c.self.inside.listed c.self.inside.limit c.self.inside.streams.items c.self.inside.groups c.self.inside.faults c.self.inside.fails.items c.self.inside.changes) _ c.stand_all.ensures c.self.invariant.0, c.self.invariant.1)

pub returns-clause-after : goal.returns-clause-after
returns-clause-after c = refused_so (hub_of c.self.inside.listed c.self.inside.limit c.self.inside.streams.items c.self.inside.groups c.self.inside.faults c.self.inside.fails.items c.self.inside.changes) c.args.self.now _ c.self.view_is c.stand_all.ensures
