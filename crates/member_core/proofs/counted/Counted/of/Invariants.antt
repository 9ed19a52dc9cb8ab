use Rattle.std.proofs.Common.{take}
use Rattle.member_core.proofs.CountLaws.{Counts}
use Rattle.member_core.proofs.counted.Counted.of.Given as goal

abbrev pub invariant-loop-chunk : goal.invariant-loop-chunk
invariant-loop-chunk l = Counts (take l.chunk-index l.chunks) l.counted.bytes l.counted.since
