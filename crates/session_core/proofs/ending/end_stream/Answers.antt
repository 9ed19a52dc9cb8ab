use Rattle.session_core.proofs.Leading.{ends}
use Rattle.session_core.proofs.ending.end_stream.Goals as goal

pub returns-clause-ok : goal.returns-clause-ok
returns-clause-ok g c =
    ends g.H.Hub.meaning c.args.tables.now c.let_go.new.tables c.args.out.now c.say.new.out c.args.stream c.args.running c.args.name c.args.hub.now c.leave_all.new.hub c.leave_all.ensures.left c.in_ok-say.ensures c.let_go.ensures
