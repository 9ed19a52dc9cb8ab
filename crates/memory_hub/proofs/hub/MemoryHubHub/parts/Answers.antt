use Rattle.std.proofs.Common.{refl}
use Rattle.hub_terms.specs.Calls.{PartsOf}
use Rattle.memory_hub.specs.Hubs.{hub_of}
use Rattle.memory_hub.proofs.Does.{asks}
use Rattle.memory_hub.proofs.hub.MemoryHubHub.parts.Goals as goal

pub returns : goal.returns
returns c =
    let x = hub_of c.self.inside.listed c.self.inside.limit c.self.inside.streams.items c.self.inside.groups c.self.inside.faults c.self.inside.fails.items c.self.inside.changes in
    asks (PartsOf c.args.name.now) x c.args.self.now _ c.self.view_is c.self.invariant.0 (refl, c.parts.ensures.few, c.parts.ensures.told x.table refl) (record { fails = refl; changes = refl })
