use Rattle.script_text.proofs.OutputReadings.{one_word_kind, other_kind}
use Rattle.script_text.proofs.output_word.kind_and_number.Goals as goal

pub returns-in-None : goal.returns-in-None
returns-in-None c = one_word_kind c.args.words.now c.in-None.ensures

pub returns-in-None-read_kind : goal.returns-in-None-read_kind
returns-in-None-read_kind c = other_kind c.args.words.now c.in-Some.first.now c.in-Some.rest.now c.in-Some.ensures c.in-None-read_kind.ensures
