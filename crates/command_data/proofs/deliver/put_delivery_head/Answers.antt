use Rattle.command_data.proofs.HeadLaws.{head_frame}
use Rattle.command_data.proofs.deliver.put_delivery_head.Goals as goal

pub returns-in-Ok-clause-ok : goal.returns-in-Ok-clause-ok
returns-in-Ok-clause-ok c = head_frame c.args.out.now c.put_head.new.out c.args.sub c.args.committed c.args.header.now c.in-Ok.ensures
