use Rattle.session_core.proofs.Wording.{close_sayable}
use Rattle.session_core.proofs.feeding.close_with.Goals as goal

pub put_reply-requires : goal.put_reply-requires
put_reply-requires c = close_sayable c.args.code c.args.tables.now c.close-reply.new.tables c.close-reply.result c.close-reply.ensures
