use Rattle.script_text.proofs.Readings.{no_four}
use Rattle.script_text.proofs.word.four_numbers.Goals as goal

pub returns-in-None-three_numbers : goal.returns-in-None-three_numbers
returns-in-None-three_numbers c = no_four c.args.words.now c.in-Some.rest.now c.in-Some.first c.in-Some.ensures.0 c.in-Some.ensures.1 c.in-None-three_numbers.ensures
