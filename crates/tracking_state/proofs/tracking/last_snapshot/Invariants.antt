use Rattle.std.proofs.Common.{◌≡◌, ◌<◌, take, IfSome}
use Rattle.std.specs.List.{All, HoldsAt}
use Rattle.chunk_format.specs.declared.chunk.ChunkKind.TheVariants.{Snapshot}
use Rattle.chunk_format.specs.Chunks.{IsChunk}
use Rattle.tracking_state.proofs.tracking.last_snapshot.Given as goal

abbrev pub invariant-loop-place : goal.invariant-loop-place
invariant-loop-place l = record { each : All IsChunk (take l.place l.log); last : IfSome l.last (λ place. (place < l.place) × HoldsAt (λ c. c.kind ≡ Snapshot) l.log place) }
