use Rattle.script_text.proofs.Readings.{no_three}
use Rattle.script_text.proofs.word.three_numbers.Goals as goal

pub returns-in-None-two_numbers : goal.returns-in-None-two_numbers
returns-in-None-two_numbers c = no_three c.args.words.now c.in-Some.rest.now c.in-Some.first c.in-Some.ensures.0 c.in-Some.ensures.1 c.in-None-two_numbers.ensures
