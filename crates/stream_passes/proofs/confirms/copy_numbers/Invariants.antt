use Rattle.std.proofs.Common.{◌≡◌, take}
use Rattle.stream_passes.proofs.confirms.copy_numbers.Given as goal

abbrev pub invariant-numbers : goal.invariant-numbers
invariant-numbers l = l.out ≡ take l.number-index l.numbers
