use Rattle.command_fields.proofs.AddLaws.{adds_more}
use Rattle.command_fields.proofs.shape.put_answer.Goals as goal

pub returns : goal.returns
returns g c =
    adds_more c.put_or_absent.result c.args.out.now c.put_u32.new.out c.put_or_absent.new.out _ _ c.in_ok-put_u32.ensures.ok
    (adds_more c.put_or_absent.result c.put_u32.new.out c.put_u16.new.out c.put_or_absent.new.out _ _ c.in_ok-put_u16.ensures.ok c.put_or_absent.ensures)
