use Rattle.std.proofs.Common.{arith}
use Rattle.settling_laws.proofs.Ordered.{step_in_order}
use Rattle.settling_laws.proofs.step_laws.messages_stand_in_order.Goals as goal

pub returns-clause-opened : goal.returns-clause-opened
returns-clause-opened c = λ epoch starts. record { rising = omega arith; fits = omega arith }

pub returns-clause-step : goal.returns-clause-step
returns-clause-step c = step_in_order
