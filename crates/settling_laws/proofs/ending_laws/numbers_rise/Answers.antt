use Rattle.settling_laws.proofs.Ending.{first_past, nudged_past, answered_past, delivered_past, next_past, none_past}
use Rattle.settling_laws.proofs.ending_laws.numbers_rise.Goals as goal

pub returns-clause-first : goal.returns-clause-first
returns-clause-first c = first_past

pub returns-clause-nudge : goal.returns-clause-nudge
returns-clause-nudge c = λ number w. nudged_past w number

pub returns-clause-job : goal.returns-clause-job
returns-clause-job c = λ number k a w. answered_past a k w number

pub returns-clause-letter : goal.returns-clause-letter
returns-clause-letter c = delivered_past

pub returns-clause-next : goal.returns-clause-next
returns-clause-next c = λ before number w. next_past w before number

pub returns-clause-last : goal.returns-clause-last
returns-clause-last c = none_past
