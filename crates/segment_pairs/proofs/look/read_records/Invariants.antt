use Rattle.std.proofs.Common.{◌≡◌, ◌+◌, length}
use Rattle.segment_pairs.specs.Found.{Walks}
use Rattle.segment_pairs.proofs.look.read_records.Given as goal

abbrev pub invariant-loop-chunks : goal.invariant-loop-chunks
invariant-loop-chunks l = record {
  walks : Walks l.number l.seg l.idx l.place l.index_place l.end l.chunks l.rest l.index_rest;
  size : l.place + length l.rest ≡ length l.seg;
  index_size : l.index_place + length l.index_rest ≡ length l.idx;
}

abbrev pub decreases-loop-chunks : goal.decreases-loop-chunks
decreases-loop-chunks l = length l.index_rest
