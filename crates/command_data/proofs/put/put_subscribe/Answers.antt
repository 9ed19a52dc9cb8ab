use Rattle.command_fields.proofs.AddLaws.{adds_more}
use Rattle.command_data.proofs.put.put_subscribe.Goals as goal

pub returns : goal.returns
returns c =
    adds_more c.put_or_absent.result c.args.out.now c.put_u32.new.out c.put_or_absent.new.out _ _ c.in_ok-put_u32.ensures.ok
    (adds_more c.put_or_absent.result c.put_u32.new.out c.put_u8.new.out c.put_or_absent.new.out _ _ c.in_ok-put_u8.ensures.ok
    (adds_more c.put_or_absent.result c.put_u8.new.out c.put_text.new.out c.put_or_absent.new.out _ _ c.in_ok-put_text.ensures.ok
    (adds_more c.put_or_absent.result c.put_text.new.out c.put.new.out c.put_or_absent.new.out _ _ c.in_ok-put.ensures.ok
    (adds_more c.put_or_absent.result c.put.new.out c.put_u16.new.out c.put_or_absent.new.out _ _ c.in_ok-put_u16.ensures.ok c.put_or_absent.ensures))))
