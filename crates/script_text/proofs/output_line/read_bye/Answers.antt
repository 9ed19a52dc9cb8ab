use Rattle.script_text.proofs.OutputReadings.{no_ending}
use Rattle.script_text.proofs.output_line.read_bye.Goals as goal

pub returns-in-None-found : goal.returns-in-None-found
returns-in-None-found c = no_ending c.args.words.now c.in-Some.behind.now c.in-Some.connection c.in-Some.ensures.0 c.in-Some.ensures.1 (rw c.in-None-found.is at c.in_ok-found-in-Some.ensures)
