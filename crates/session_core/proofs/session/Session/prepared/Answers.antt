use Rattle.session_core.proofs.Sessions.{refuses_at}
use Rattle.session_core.proofs.session.Session.prepared.Goals as goal

pub returns-in-Err-clause-ok : goal.returns-in-Err-clause-ok
returns-in-Err-clause-ok g c = refuses_at g.H.Hub.meaning c.new-tables.result _ c.args.stream.now c.in-Err.fault c.args.hub.now c.prepare.new.hub c.new-tables.ensures c.in-Err.ensures.ok
