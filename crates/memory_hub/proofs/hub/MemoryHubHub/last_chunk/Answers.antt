use Rattle.std.proofs.Common.{List, refl, ap, ◌∙◌}
use Rattle.stream_terms.specs.Lists.{last_first}
use Rattle.stream_terms.specs.Views.{StreamView}
use Rattle.hub_terms.specs.Tables.{chunks_by, view_at}
use Rattle.hub_terms.specs.Calls.{LastChunk}
use Rattle.memory_hub.specs.Hubs.{hub_of}
use Rattle.memory_hub.proofs.Does.{asks}
use Rattle.memory_hub.proofs.hub.MemoryHubHub.last_chunk.Goals as goal

pub returns : goal.returns
returns c =
    let x = hub_of c.self.inside.listed c.self.inside.limit c.self.inside.streams.items c.self.inside.groups c.self.inside.faults c.self.inside.fails.items c.self.inside.changes in
    asks (LastChunk c.args.stream) x c.args.self.now _ c.self.view_is c.self.invariant.0 (refl, c.last_in.ensures ∙ ap (λ (l : List StreamView). last_first (chunks_by (view_at l c.args.stream))) c.as_slice.ensures.value) (record { fails = refl; changes = refl })
