use Rattle.script_text.proofs.Readings.{one_line}
use Rattle.script_text.proofs.script.lines_have_one_reading.Goals as goal

pub returns : goal.returns
returns c = λ bytes one other p q. one_line bytes one other p q
