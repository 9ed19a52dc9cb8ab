use Rattle.script_text.proofs.OutputReadings.{no_three_behind}
use Rattle.script_text.proofs.output_word.two_and_words.Goals as goal

pub returns-in-None-number_and_words : goal.returns-in-None-number_and_words
returns-in-None-number_and_words c = no_three_behind c.args.words.now c.in-Some.behind.now c.in-Some.first c.in-Some.ensures.0 c.in-Some.ensures.1 c.in-None-number_and_words.ensures
