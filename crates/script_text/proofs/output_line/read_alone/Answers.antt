use Rattle.script_text.proofs.OutputReadings.{none_alone}
use Rattle.script_text.proofs.output_line.read_alone.Goals as goal

pub returns-else-is_same : goal.returns-else-is_same
returns-else-is_same c = none_alone c.args.text.now c.requires (λ end. let is_so = c.is_same.ensures.1 end in let is_not = c.if-is_same.false in absurd cc)
