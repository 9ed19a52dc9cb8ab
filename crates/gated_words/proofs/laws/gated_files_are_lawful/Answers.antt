use Rattle.gated_words.proofs.Reading.{behind_no_gate, given_up_has, pairs_in-whole}
use Rattle.gated_words.proofs.Opening.{xor_damages}
use Rattle.gated_words.proofs.laws.gated_files_are_lawful.Goals as goal

pub returns-clause-spelled : goal.returns-clause-spelled
returns-clause-spelled c = λ f pairs rest fit stops. pairs_in-whole f pairs rest fit (behind_no_gate f rest stops)

pub returns-clause-given_up : goal.returns-clause-given_up
returns-clause-given_up c = λ f pairs rest fit gives. (given_up_has f pairs rest fit gives).opens

pub returns-clause-another_xor : goal.returns-clause-another_xor
returns-clause-another_xor c = xor_damages
