use Rattle.std.proofs.Common.{arith}
use Rattle.osiris_audit.proofs.Causing.{either_after, either_never, cause_never}
use Rattle.osiris_audit.proofs.inspecting.read_both.Goals as goal

pub returns-in-Ok-true-clause-reads : goal.returns-in-Ok-true-clause-reads
returns-in-Ok-true-clause-reads g c = c.read_records.ensures.reads _ _ _ ((c.in-Ok-true.ensures.give _).0 c.in-Ok-true.field-0-test)

pub returns-in-Ok-true-clause-cause : goal.returns-in-Ok-true-clause-cause
returns-in-Ok-true-clause-cause g c = either_after _ _ _ _ _ _ c.in-Ok-true.ensures.cause.one_later c.in-Ok-true.ensures.cause.two_later c.read_records.ensures.cause (λ e. e)

pub returns-in-Ok-false-clause-reads : goal.returns-in-Ok-false-clause-reads
returns-in-Ok-false-clause-reads g c = (c.in-Ok-false.ensures.give _).1 c.in-Ok-false.field-0-test

pub returns-in-Ok-false-clause-cause : goal.returns-in-Ok-false-clause-cause
returns-in-Ok-false-clause-cause g c = either_never _ _ _ _ c.in-Ok-false.ensures.cause.one_later c.in-Ok-false.ensures.cause.two_later (λ e. absurd cc)

pub returns-in-Err-clause-reads : goal.returns-in-Err-clause-reads
returns-in-Err-clause-reads g c = c.in-Err.ensures.give _

pub returns-in-Err-clause-cause : goal.returns-in-Err-clause-cause
returns-in-Err-clause-cause g c = either_after _ _ _ _ _ _ (omega arith) (omega arith) c.in-Err.ensures.cause (λ e. cc e)

pub returns-in-Err-clause-write : goal.returns-in-Err-clause-write
returns-in-Err-clause-write g c = cause_never _ _ (omega arith) (λ e. c.in-Err.ensures.no_write (cc e))
