use Rattle.frame_wire.proofs.JoinLaws.{then_lawful, list_lawful, within_lawful, mapped_lawful, one_outcome}
use Rattle.frame_wire.proofs.laws.joins_are_lawful.Goals as goal

pub returns : goal.returns
returns g c = record {
  one_after_another = λ p q. then_lawful _ _ p q;
  list = λ of p. list_lawful of _ (within_lawful of _ p);
  other_fault = λ of p. within_lawful of _ p;
  other_values = λ make parts back forth p. mapped_lawful make parts _ back forth p;
  outcome = λ p. one_outcome _ p;
}
