use Rattle.std.proofs.Common.{arith}
use Rattle.disk_calls.proofs.Digits.{no_number, parsed_found, parsed_all, signed_none}
use Rattle.disk_calls.proofs.file_text.number_of.Goals as goal

pub returns-clause-found : goal.returns-clause-found
returns-clause-found c =
    parsed_found c.args.digits.now c.parse.result c.ok.result c.parse.ensures.value.0 (omega arith) (c.if-starts_with.ensures.byte (omega arith) (omega arith) (λ w o h. h)) c.ok.ensures.value

pub returns-clause-all : goal.returns-clause-all
returns-clause-all c = parsed_all c.args.digits.now c.parse.result c.ok.result c.parse.ensures.value.0 c.ok.ensures.value

pub returns-then-digits-ne-DIGITS-clause-all : goal.returns-then-digits-ne-DIGITS-clause-all
returns-then-digits-ne-DIGITS-clause-all c = λ first lt is. absurd (no_number c.args.digits.now first lt is (λ e. omega (arith, e)))

pub returns-then-starts_with-clause-all : goal.returns-then-starts_with-clause-all
returns-then-starts_with-clause-all c = λ first lt is.
    absurd (signed_none c.args.digits.now first lt is (c.if-starts_with.ensures.byte (omega arith) (omega arith) (λ w o h. h)))
