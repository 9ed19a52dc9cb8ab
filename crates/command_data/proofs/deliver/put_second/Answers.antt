use Rattle.command_fields.proofs.AddLaws.{adds_more}
use Rattle.command_data.proofs.deliver.put_second.Goals as goal

pub returns : goal.returns
returns c =
    adds_more c.put_id.result c.args.out.now c.put_u32.new.out c.put_id.new.out _ _ c.in_ok-put_u32.ensures.ok
    (adds_more c.put_id.result c.put_u32.new.out c.put_u16.new.out c.put_id.new.out _ _ c.in_ok-put_u16.ensures.ok
    (adds_more c.put_id.result c.put_u16.new.out c.put_u16-2.new.out c.put_id.new.out _ _ c.in_ok-put_u16-2.ensures.ok c.put_id.ensures))
