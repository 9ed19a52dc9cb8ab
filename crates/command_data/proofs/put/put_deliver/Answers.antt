use Rattle.command_fields.proofs.AddLaws.{adds_more}
use Rattle.command_data.proofs.put.put_deliver.Goals as goal

pub returns : goal.returns
returns c = adds_more c.put_delivered.result c.args.out.now c.put_u8.new.out c.put_delivered.new.out _ _ c.in_ok-put_u8.ensures.ok c.put_delivered.ensures
