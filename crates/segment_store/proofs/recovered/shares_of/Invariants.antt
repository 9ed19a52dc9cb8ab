use Rattle.std.proofs.Common.{◌≡◌, take}
use Rattle.segment_store.proofs.recovered.shares_of.Given as goal

abbrev pub invariant-loop-chunk : goal.invariant-loop-chunk
invariant-loop-chunk l = l.row ≡ take l.chunk-index l.chunks
