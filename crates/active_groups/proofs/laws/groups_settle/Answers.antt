use Rattle.active_groups.proofs.Settles.{at_most_two, settled, after_two}
use Rattle.active_groups.proofs.laws.groups_settle.Goals as goal

pub returns-clause-at_most_two : goal.returns-clause-at_most_two
returns-clause-at_most_two c = λ old new events place. at_most_two events old new place

pub returns-clause-settled : goal.returns-clause-settled
returns-clause-settled c = settled

pub returns-clause-after_two : goal.returns-clause-after_two
returns-clause-after_two c = λ old new events place g. after_two events old new place g
