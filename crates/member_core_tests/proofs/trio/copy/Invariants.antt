use Rattle.std.proofs.Common.{◌≡◌, take}
use Rattle.member_core_tests.proofs.trio.copy.Given as goal

abbrev pub invariant-loop-chunk : goal.invariant-loop-chunk
invariant-loop-chunk l = l.chunks ≡ take l.chunk-index l.log
