use Rattle.std.proofs.Common.{refl, ◌∙◌, arith}
use Rattle.chunk_format.specs.Faults.{EntryWrong, SumWrong, LastWrong}
use Rattle.chunk_format.proofs.check.check_counts.Goals as goal

pub returns-then-records-header : goal.returns-then-records-header
returns-then-records-header c =
    let walked = c.in-Ok.ensures in
    SumWrong (omega arith, omega arith) walked.0 walked.1 (λ e. omega (arith, walked.2, e)) refl

pub returns-then-header-from : goal.returns-then-header-from
returns-then-header-from c =
    let walked = c.in-Ok.ensures in
    LastWrong (omega arith, omega arith) walked.0 walked.1 (walked.2 ∙ c.if-records-header.false) (omega arith) refl

pub returns-in-Err : goal.returns-in-Err
returns-in-Err c = EntryWrong (omega arith, omega arith) c.in-Err.at c.in-Err.ensures refl
