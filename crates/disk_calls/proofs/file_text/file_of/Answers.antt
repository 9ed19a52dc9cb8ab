use Rattle.disk_calls.proofs.OneName.{one_index, one_segment}
use Rattle.disk_calls.proofs.file_text.file_of.Goals as goal

pub returns-in-Some-clause-all : goal.returns-in-Some-clause-all
returns-in-Some-clause-all c = one_segment c.args.name.now c.in-Some.first c.in-Some.ensures.found.1 c.in-Some.ensures.found.0

pub returns-in-Some-number_before-clause-all : goal.returns-in-Some-number_before-clause-all
returns-in-Some-number_before-clause-all c = one_index c.args.name.now c.in-Some-number_before.first c.in-Some-number_before.ensures.found.1 c.in-Some-number_before.ensures.found.0
