use Rattle.std.proofs.Common.{List, refl, ap, ◌∙◌}
use Rattle.stream_catalog.specs.Names.{find}
use Rattle.stream_terms.specs.Views.{StreamView}
use Rattle.hub_terms.specs.Tables.{found_by}
use Rattle.hub_terms.specs.Calls.{Finding}
use Rattle.memory_hub.specs.Hubs.{hub_of}
use Rattle.memory_hub.proofs.Does.{asks}
use Rattle.memory_hub.proofs.hub.MemoryHubHub.find.Goals as goal

pub returns : goal.returns
returns c =
    let x = hub_of c.self.inside.listed c.self.inside.limit c.self.inside.streams.items c.self.inside.groups c.self.inside.faults c.self.inside.fails.items c.self.inside.changes in
    asks (Finding c.args.name.now) x c.args.self.now _ c.self.view_is c.self.invariant.0 (refl, c.find.ensures ∙ ap (λ (l : List StreamView). found_by l (find c.args.name.now c.self.inside.listed)) c.as_slice.ensures.value) (record { fails = refl; changes = refl })
