use Rattle.std.proofs.Common.{refl}
use Rattle.hub_terms.specs.Calls.{Leaving}
use Rattle.memory_hub.specs.Hubs.{table_of, hub_of}
use Rattle.memory_hub.proofs.Does.{grouped, groups_hold}
use Rattle.memory_hub.proofs.hub.MemoryHubHub.leave.Goals as goal

pub invariant_of-self : goal.invariant_of-self
invariant_of-self c = (groups_hold (table_of c.self.inside.listed c.self.inside.limit c.self.inside.streams.items c.self.inside.groups c.self.inside.faults) _ c.self.invariant.0, c.self.invariant.1)

pub returns : goal.returns
returns c =
    let x = hub_of c.self.inside.listed c.self.inside.limit c.self.inside.streams.items c.self.inside.groups c.self.inside.faults c.self.inside.fails.items c.self.inside.changes in
    grouped (Leaving c.args.consumer) x c.args.self.now _ _ c.self.view_is c.self.invariant.0 (record { step = c.leave.ensures.step; rest = refl }) (record { fails = refl; changes = refl })
