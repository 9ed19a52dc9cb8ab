use Rattle.script_text.proofs.OneOutput.{one_output}
use Rattle.script_text.proofs.output.outputs_have_one_reading.Goals as goal

pub returns : goal.returns
returns c = λ bytes one other p q. one_output bytes one other p q
