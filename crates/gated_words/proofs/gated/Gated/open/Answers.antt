use Rattle.gated_words.proofs.Hands.{held_only, held_backs}
use Rattle.gated_words.proofs.gated.Gated.open.Goals as goal

pub returns-clause-only : goal.returns-clause-only
returns-clause-only g c = λ told. held_only _ _ _ (c.in_ok-pairs.ensures.held told)

pub returns-clause-backs : goal.returns-clause-backs
returns-clause-backs g c = λ told. held_backs _ _ c.requires (c.in_ok-pairs.ensures.held told)
