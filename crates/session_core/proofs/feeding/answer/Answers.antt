use Rattle.session_core.proofs.Answering.{framed_taken}
use Rattle.session_core.proofs.Saying.{replies_are_sayable}
use Rattle.session_core.proofs.feeding.answer.Goals as goal

pub serve-requires : goal.serve-requires
serve-requires g c = framed_taken c.args.command c.requires

pub put_some-requires : goal.put_some-requires
put_some-requires g c =
    replies_are_sayable g.H.Hub.meaning g.met.H.Hub.laws c.args.identity.now c.args.tables.now c.args.now c.args.command c.requires.body c.requires.spells c.requires.small c.in_ok-reply.reply c.serve.new.tables c.args.hub.now c.serve.new.hub c.in_ok-reply.ensures.ok
