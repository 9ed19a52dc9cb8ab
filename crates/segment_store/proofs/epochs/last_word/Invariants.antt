use Rattle.std.proofs.Common.{◌≡◌, ◌≤◌, length, take}
use Rattle.segment_store.specs.Words.{word_of}
use Rattle.segment_store.proofs.epochs.last_word.Given as goal

abbrev pub invariant-loop-at : goal.invariant-loop-at
invariant-loop-at l = record {
  within : l.at ≤ length l.pairs;
  word : word_of l.stream (take l.at l.pairs) ≡ word_of l.stream l.pairs;
}

abbrev pub decreases-loop-at : goal.decreases-loop-at
decreases-loop-at l = l.at
