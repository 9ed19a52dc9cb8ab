use Rattle.command_fields.proofs.SizeLaws.{two_texts}
use Rattle.command_fields.proofs.size.PropertyMeasured.size.Goals as goal

pub returns : goal.returns
returns c = two_texts c.args.self.now.key c.args.self.now.value c.in_ok-key.key c.in_ok-value.value c.in_ok-key.ensures c.in_ok-value.ensures
