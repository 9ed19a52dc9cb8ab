use Rattle.std.proofs.Common.{◌≡◌, take}
use Rattle.stream_cluster.proofs.share.share_all.Given as goal

abbrev pub invariant-loop-chunk : goal.invariant-loop-chunk
invariant-loop-chunk l = l.shared ≡ take l.chunk-index l.chunks
