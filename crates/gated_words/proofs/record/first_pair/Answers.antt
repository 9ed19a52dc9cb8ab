use Rattle.std.proofs.Common.{refl, sym, ◌∙◌}
use Rattle.std.proofs.lemmas.Bool.{false≢true}
use Rattle.gated_words.proofs.Reading.{behind_none, starts_with}
use Rattle.gated_words.proofs.record.first_pair.Goals as goal

pub returns-then-not-is_gated : goal.returns-then-not-is_gated
returns-then-not-is_gated c = behind_none _ _ (λ has checked. false≢true (sym c.if-not-is_gated.true ∙ c.is_gated.ensures.1 has))

pub returns-then-not-is_checked : goal.returns-then-not-is_checked
returns-then-not-is_checked c = behind_none _ _ (λ has checked. false≢true (sym c.if-not-is_checked.true ∙ c.is_checked.ensures ∙ checked))

pub returns : goal.returns
returns c = starts_with _ _ _ _ (c.is_gated.ensures.0 c.if-not-is_gated.false) (sym c.is_checked.ensures ∙ c.if-not-is_checked.false) refl c.pair_of.ensures.pair c.pair_of.ensures.spelled c.pair_of.ensures.fits
