use Rattle.std.proofs.Common.{inl, inr, refl}
use Rattle.streamc.proofs.run.run.Goals as goal

pub returns-in_default-connect-clause-does : goal.returns-in_default-connect-clause-does
returns-in_default-connect-clause-does g c = inl (_, c.in-Some.ensures, inl (refl, refl, refl))

pub returns-in_default-connect-clause-line : goal.returns-in_default-connect-clause-line
returns-in_default-connect-clause-line g c = λ nothing. absurd (nothing _ c.in-Some.ensures)

pub returns-clause-does : goal.returns-clause-does
returns-clause-does g c = inl (_, c.in-Some.ensures, inr c.client.ensures.does)

pub returns-clause-status : goal.returns-clause-status
returns-clause-status g c = λ nothing. absurd (nothing _ c.in-Some.ensures)

pub returns-clause-line : goal.returns-clause-line
returns-clause-line g c = λ nothing. absurd (nothing _ c.in-Some.ensures)

pub returns-clause-input : goal.returns-clause-input
returns-clause-input g c = λ nothing. absurd (nothing _ c.in-Some.ensures)
