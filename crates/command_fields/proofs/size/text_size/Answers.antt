use Rattle.command_fields.proofs.SizeLaws.{is_text, is_null}
use Rattle.command_fields.proofs.size.text_size.Goals as goal

pub returns-in-None : goal.returns-in-None
returns-in-None c = is_null c.args.text.now c.in-None.ensures.value

pub returns-in-Some : goal.returns-in-Some
returns-in-Some c = is_text c.args.text.now c.in-Some.bytes.now c.in-Some.ensures.value c.in-Some.ensures.short
