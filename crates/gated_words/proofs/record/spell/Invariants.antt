use Rattle.std.proofs.Common.{◌≡◌, take}
use Rattle.gated_words.specs.declared.record.Form.TheVariants as form
use Rattle.gated_words.specs.Words.{spelled}
use Rattle.gated_words.proofs.record.spell.Given as goal

abbrev pub invariant-loop-first : goal.invariant-loop-first
invariant-loop-first l = l.bytes.items ≡ spelled form.Second (take l.first-index l.pairs)
