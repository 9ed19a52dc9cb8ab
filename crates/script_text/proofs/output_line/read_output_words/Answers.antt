use Rattle.script_text.proofs.OutputReadings.{none_other}
use Rattle.script_text.proofs.output_line.read_output_words.Goals as goal

pub returns-in-None-read_first : goal.returns-in-None-read_first
returns-in-None-read_first c = none_other c.args.text.now c.in-Some.word.now c.in-Some.words.now c.in-Some.ensures c.in-None-read_first.ensures
