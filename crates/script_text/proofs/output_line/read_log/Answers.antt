use Rattle.std.proofs.Common.{arith}
use Rattle.script_text.proofs.OutputReadings.{no_log_of_none, no_member_log}
use Rattle.script_text.proofs.output_line.read_log.Goals as goal

pub returns-then-member-eq-COORDINATOR : goal.returns-then-member-eq-COORDINATOR
returns-then-member-eq-COORDINATOR c = no_log_of_none c.args.words.now c.in-Some.rest.now c.in-Some.stream c.in-Some.member c.in-Some.ensures (let zero = c.if-member-eq-COORDINATOR.true in omega (arith, zero))

pub returns-in-None-two_numbers : goal.returns-in-None-two_numbers
returns-in-None-two_numbers c =
    no_member_log c.args.words.now c.in-Some.rest.now c.in-Some.stream c.in-Some.member c.in-Some.ensures (λ dash. let is_so = c.is_same.ensures.1 dash in let is_not = c.if-is_same.false in absurd cc) c.in-None-two_numbers.ensures
