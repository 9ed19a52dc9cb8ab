use Rattle.frame_wire.proofs.JoinLaws.{absent_lawful, to_end_lawful, end_lawful, then_last}
use Rattle.frame_wire.proofs.laws.ends_are_lawful.Goals as goal

pub returns : goal.returns
returns g c = record { absent = λ p some. absent_lawful _ p some; to_end = to_end_lawful; end = λ long. end_lawful long; behind = λ p q. then_last _ _ p q }
