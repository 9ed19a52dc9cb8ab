use Rattle.std.proofs.Common.{take}
use Rattle.script_text.specs.Words.{Lacks}
use Rattle.script_text.proofs.word.find_byte.Given as goal

abbrev pub invariant-loop-k : goal.invariant-loop-k
invariant-loop-k l = Lacks l.wanted (take l.k l.bytes)
