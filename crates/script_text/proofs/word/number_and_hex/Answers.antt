use Rattle.script_text.proofs.OutputReadings.{no_hex_behind}
use Rattle.script_text.proofs.word.number_and_hex.Goals as goal

pub returns-in-None-found : goal.returns-in-None-found
returns-in-None-found c = no_hex_behind c.args.words.now c.in-Some.word.now c.in-Some.number c.in-Some.ensures.0 c.in-Some.ensures.1 (rw c.in-None-found.is at c.in_ok-found-in-Some.ensures)
