use Rattle.script_text.proofs.OutputReadings.{no_hex_no_code, code_found}
use Rattle.script_text.proofs.output_word.read_code.Goals as goal

pub returns-in-None : goal.returns-in-None
returns-in-None c = no_hex_no_code c.args.word.now (rw c.in-None.is at c.in_ok-found.ensures)

pub returns-in-Some : goal.returns-in-Some
returns-in-Some c = code_found c.args.word.now c.in-Some.bytes c.code_of.result (rw c.in-Some.is at c.in_ok-found.ensures) (rw c.as_slice.ensures at c.code_of.ensures)
