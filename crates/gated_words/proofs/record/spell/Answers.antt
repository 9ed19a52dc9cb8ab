use Rattle.gated_words.proofs.Loops.{spell_more, spell_none}
use Rattle.gated_words.proofs.record.spell.Goals as goal

pub loop-first-init : goal.loop-first-init
loop-first-init c = spell_none _ _ _ c.in_ok-extend_from_slice.ensures.items c.new-bytes.ensures.items c.header.ensures

pub loop-first-preserved : goal.loop-first-preserved
loop-first-preserved c = spell_more _ _ _ _ _ c.loop-first-test.true c.loop-first.invariant c.in_ok-extend_from_slice-2.ensures.items c.record_of.ensures
