use Rattle.std.proofs.Common.{◌≡◌, take, fold}
use Rattle.std.specs.Prelude.{bit_xor}
use Rattle.gated_words.proofs.record.xor_of.Given as goal

abbrev pub invariant-loop-byte : goal.invariant-loop-byte
invariant-loop-byte l = l.xor ≡ fold bit_xor 0 (take l.byte-index l.bytes)
