use Rattle.std.proofs.Common.{arith}
use Rattle.script_text.proofs.Readings.{no_call}
use Rattle.script_text.proofs.script.read_fail.Goals as goal

pub returns-then-call-eq0 : goal.returns-then-call-eq0
returns-then-call-eq0 c =
    no_call c.args.words.now c.in-Some.stream c.in-Some.member c.in-Some.call c.in-Some.ensures.0 c.in-Some.ensures.1 c.in-Some.ensures.2 c.in-Some.ensures.3 (let zero = c.if-call-eq0.true in omega (arith, zero))
