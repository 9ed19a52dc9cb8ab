use Rattle.gated_words.proofs.Hands.{held_near}
use Rattle.gated_words.proofs.add_pair.put_sure.Goals as goal

pub returns-in_err-push-clause-images : goal.returns-in_err-push-clause-images
returns-in_err-push-clause-images g c = λ told. held_near _ _ _ _ (c.requires.held told)
