use Rattle.std.proofs.Common.{map, take}
use Rattle.serve_words.specs.Asked.{AreTexts}
use Rattle.serve_words.proofs.words.read_texts.Given as goal

abbrev pub invariant-loop-word : goal.invariant-loop-word
invariant-loop-word l = AreTexts (take l.word-index l.words) (map (λ t. t.now) l.texts.items)
