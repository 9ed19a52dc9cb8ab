use Rattle.std.proofs.Common.{◌≡◌, ◌++◌, List, take}
use Rattle.chunk_format.specs.declared.chunk.Chunk.{Chunk}
use Rattle.tracking_state.specs.Tracked.{tracked_of}
use Rattle.tracking_state.proofs.tracking.Tracking.apply_all.Given as goal

abbrev pub invariant-loop-chunk : goal.invariant-loop-chunk
invariant-loop-chunk l = (log : List Chunk) → l.fn.self ≡ tracked_of log → l.self ≡ tracked_of (log ++ take l.chunk-index l.chunks)
