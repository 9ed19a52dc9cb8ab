use Rattle.std.proofs.Common.{refl}
use Rattle.hub_terms.specs.Calls.{Joining}
use Rattle.memory_hub.specs.Hubs.{table_of, hub_of}
use Rattle.memory_hub.proofs.Does.{grouped, groups_hold, joined_by}
use Rattle.memory_hub.proofs.hub.MemoryHubHub.join.Goals as goal

pub invariant_of-self : goal.invariant_of-self
invariant_of-self c = (groups_hold (table_of c.self.inside.listed c.self.inside.limit c.self.inside.streams.items c.self.inside.groups c.self.inside.faults) _ c.self.invariant.0, c.self.invariant.1)

pub returns : goal.returns
returns c =
    let x = hub_of c.self.inside.listed c.self.inside.limit c.self.inside.streams.items c.self.inside.groups c.self.inside.faults c.self.inside.fails.items c.self.inside.changes in
    grouped (Joining c.args.stream c.args.name.now c.args.consumer) x c.args.self.now _ _ c.self.view_is c.self.invariant.0 (joined_by c.args.stream c.args.name.now c.args.consumer _ x.table _ _ _ c.part_index-index.ensures c.leave.ensures.step c.join.ensures.ok c.join.ensures.err) (record { fails = refl; changes = refl })
