use Rattle.std.proofs.Common.{List, refl, ap}
use Rattle.chunk_format.specs.Logs.{next_above}
use Rattle.stream_terms.specs.Views.{StreamView}
use Rattle.hub_terms.specs.Tables.{chunks_by, view_at}
use Rattle.hub_terms.specs.Calls.{NextChunk}
use Rattle.memory_hub.specs.Hubs.{hub_of}
use Rattle.memory_hub.proofs.Does.{asks, if_told}
use Rattle.memory_hub.proofs.hub.MemoryHubHub.next_chunk.Goals as goal

pub returns : goal.returns
returns c =
    let x = hub_of c.self.inside.listed c.self.inside.limit c.self.inside.streams.items c.self.inside.groups c.self.inside.faults c.self.inside.fails.items c.self.inside.changes in
    asks (NextChunk c.args.stream c.args.from) x c.args.self.now _ c.self.view_is c.self.invariant.0 (refl, if_told _ _ _ c.next_in.ensures (ap (λ (l : List StreamView). next_above c.args.from (chunks_by (view_at l c.args.stream))) c.as_slice.ensures.value)) (record { fails = refl; changes = refl })
