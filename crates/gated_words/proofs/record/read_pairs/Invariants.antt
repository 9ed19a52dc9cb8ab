use Rattle.std.proofs.Common.{length}
use Rattle.gated_words.proofs.Loops.{ReadsTo}
use Rattle.gated_words.proofs.record.read_pairs.Given as goal

abbrev pub invariant-loop-pair : goal.invariant-loop-pair
invariant-loop-pair l = ReadsTo l.fn.form l.bytes l.pairs.items l.rest

abbrev pub decreases-loop-pair : goal.decreases-loop-pair
decreases-loop-pair l = length l.rest
