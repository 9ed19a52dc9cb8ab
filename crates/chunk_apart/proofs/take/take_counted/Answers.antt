use Rattle.std.proofs.Common.{◌∙◌, refl, arith}
use Rattle.chunk_format.specs.Faults.{SumWrong, LastWrong}
use Rattle.chunk_apart.proofs.TakeLaws.{count_fails}
use Rattle.chunk_apart.proofs.take.take_counted.Goals as goal

pub returns-then-taken-header : goal.returns-then-taken-header
returns-then-taken-header c =
    let walked = c.in_ok-taken.ensures in
    count_fails c.args.header.now c.args.payload.now 4 _ c.wrong_count-then-taken-header.ensures (SumWrong (omega arith, omega arith) c.in_ok-taken.taken.entries walked.0 (λ e. omega (arith, walked.1, e)) refl)

pub returns-then-header-from : goal.returns-then-header-from
returns-then-header-from c =
    let walked = c.in_ok-taken.ensures in
    count_fails c.args.header.now c.args.payload.now 24 _ c.wrong_count-then-header-from.ensures (LastWrong (omega arith, omega arith) c.in_ok-taken.taken.entries walked.0 (walked.1 ∙ c.if-taken-header.false) (omega arith) refl)
