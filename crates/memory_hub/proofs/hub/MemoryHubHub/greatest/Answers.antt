use Rattle.std.proofs.Common.{ℕ, List, refl, ap, ◌∙◌}
use Rattle.chunk_format.specs.ByName.{Greatest}
use Rattle.stream_terms.specs.Views.{StreamView, name_of}
use Rattle.hub_terms.specs.Tables.{chunks_by, view_at}
use Rattle.hub_terms.specs.Calls.{GreatestOf}
use Rattle.memory_hub.specs.Hubs.{hub_of}
use Rattle.memory_hub.proofs.Does.{asks}
use Rattle.memory_hub.proofs.hub.MemoryHubHub.greatest.Goals as goal

pub returns : goal.returns
returns c =
    let x = hub_of c.self.inside.listed c.self.inside.limit c.self.inside.streams.items c.self.inside.groups c.self.inside.faults c.self.inside.fails.items c.self.inside.changes in
    asks (GreatestOf c.args.stream c.args.name.now) x c.args.self.now _ c.self.view_is c.self.invariant.0 (refl, c.greatest_in.ensures ∙ ap (λ (n : List ℕ). Greatest n (chunks_by (view_at c.as_slice.result.now c.args.stream))) c.bytes_of.ensures ∙ ap (λ (l : List StreamView). Greatest (name_of c.args.name.now) (chunks_by (view_at l c.args.stream))) c.as_slice.ensures.value) (record { fails = refl; changes = refl })
