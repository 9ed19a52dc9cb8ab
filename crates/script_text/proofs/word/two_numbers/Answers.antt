use Rattle.script_text.proofs.Readings.{no_two}
use Rattle.script_text.proofs.word.two_numbers.Goals as goal

pub returns-in-None-read_number : goal.returns-in-None-read_number
returns-in-None-read_number c = no_two c.args.words.now c.in-Some.rest.now c.in-Some.first c.in-Some.ensures.0 c.in-Some.ensures.1 c.in-None-read_number.ensures
