use Rattle.std.proofs.Common.{List, refl, ap, ◌∙◌}
use Rattle.command_data.specs.Starts.{StartOf}
use Rattle.stream_terms.specs.Views.{StreamView}
use Rattle.hub_terms.specs.Tables.{chunks_by, view_at}
use Rattle.hub_terms.specs.Calls.{Starting}
use Rattle.memory_hub.specs.Hubs.{hub_of}
use Rattle.memory_hub.proofs.Does.{asks}
use Rattle.memory_hub.proofs.hub.MemoryHubHub.start.Goals as goal

pub returns : goal.returns
returns c =
    let x = hub_of c.self.inside.listed c.self.inside.limit c.self.inside.streams.items c.self.inside.groups c.self.inside.faults c.self.inside.fails.items c.self.inside.changes in
    asks (Starting c.args.stream c.args.spec.now) x c.args.self.now _ c.self.view_is c.self.invariant.0 (refl, c.start_in.ensures ∙ ap (λ (l : List StreamView). StartOf c.args.spec.now (chunks_by (view_at l c.args.stream))) c.as_slice.ensures.value) (record { fails = refl; changes = refl })
