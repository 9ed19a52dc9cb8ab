use Rattle.std.proofs.Common.{arith}
use Rattle.script_text.proofs.OutputReadings.{no_coordinator, no_member_up}
use Rattle.script_text.proofs.output_line.read_up.Goals as goal

pub returns-in-None-read_number : goal.returns-in-None-read_number
returns-in-None-read_number c = no_coordinator c.args.words.now c.in-Some.rest.now c.in-Some.stream c.in-Some.member c.in-Some.ensures (let zero = c.if-member-eq-COORDINATOR.true in omega (arith, zero)) c.in-None-read_number.ensures

pub returns-in-None-two_numbers : goal.returns-in-None-two_numbers
returns-in-None-two_numbers c = no_member_up c.args.words.now c.in-Some.rest.now c.in-Some.stream c.in-Some.member c.in-Some.ensures (let some = c.if-member-eq-COORDINATOR.false in λ zero. omega (arith, some, zero)) c.in-None-two_numbers.ensures
