use Rattle.script_text.proofs.OutputReadings.{no_receiver, no_kind_behind}
use Rattle.script_text.proofs.output_line.read_message.Goals as goal

pub returns-in-None-number_and_words : goal.returns-in-None-number_and_words
returns-in-None-number_and_words c = no_receiver c.args.words.now c.in-Some.behind.now c.in-Some.stream c.in-Some.number c.in-Some.ensures c.in-None-number_and_words.ensures

pub returns-in-None-kind_and_number : goal.returns-in-None-kind_and_number
returns-in-None-kind_and_number c =
    no_kind_behind c.args.words.now c.in-Some.behind.now c.in-Some-number_and_words.rest.now c.in-Some.stream c.in-Some.number c.in-Some-number_and_words.receiver c.in-Some.ensures c.in-Some-number_and_words.ensures.0 c.in-Some-number_and_words.ensures.1
    c.in-None-kind_and_number.ensures
