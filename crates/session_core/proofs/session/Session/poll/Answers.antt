use Rattle.std.proofs.Common.{sym, ap, ◌∙◌}
use Rattle.session_core.specs.Sessions.{SessionState}
use Rattle.session_core.proofs.Sessions.{polls_none, told_adds}
use Rattle.session_core.proofs.session.Session.poll.Goals as goal

pub returns-in-Some-clause-ok : goal.returns-in-Some-clause-ok
returns-in-Some-clause-ok g c = polls_none g.H.Hub.meaning c.args.self.now c.in-Some.field-0 c.new-said.result c.args.hub.now (sym c.ended.ensures ∙ c.in-Some.is) c.new-said.ensures

pub returns-in-Ok-clause-adds : goal.returns-in-Ok-clause-adds
returns-in-Ok-clause-adds g c =
    told_adds g.H.Hub.meaning c.self.inside.tables c.args.self.now.tables c.poll.new.tables c.tell.new.tables c.new-said.result c.as_slice.result.now c.poll.new.out c.args.hub.now c.poll.new.hub
    (ap (λ (s : SessionState). s.tables) c.self.view_is) c.new-said.ensures c.tell.ensures c.in-Ok.ensures.adds
