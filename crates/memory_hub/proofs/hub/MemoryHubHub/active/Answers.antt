use Rattle.std.proofs.Common.{refl, ap, ◌∙◌}
use Rattle.hub_terms.specs.Tables.{active_by}
use Rattle.hub_terms.specs.Calls.{IsActive}
use Rattle.memory_hub.specs.Hubs.{hub_of}
use Rattle.memory_hub.proofs.Does.{asks}
use Rattle.memory_hub.proofs.hub.MemoryHubHub.active.Goals as goal

pub returns : goal.returns
returns c =
    let x = hub_of c.self.inside.listed c.self.inside.limit c.self.inside.streams.items c.self.inside.groups c.self.inside.faults c.self.inside.fails.items c.self.inside.changes in
    asks (IsActive c.args.consumer) x c.args.self.now _ c.self.view_is c.self.invariant.0 (refl, c.is_active.ensures ∙ ap active_by c.state.ensures.state) (record { fails = refl; changes = refl })
