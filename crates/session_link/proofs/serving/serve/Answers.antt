use Rattle.session_link.specs.Turns.{served}
use Rattle.session_link.proofs.Runs.{no_turn}
use Rattle.session_link.proofs.serving.serve.Goals as goal

pub returns-in-Err-clause-runs : goal.returns-in-Err-clause-runs
returns-in-Err-clause-runs g c = no_turn g.H.Hub.meaning (served c.args.session.now c.args.hub.now (g.L.Link.heard c.args.link.now) (g.L.Link.sent c.args.link.now) (g.C.Clock.moments c.args.clock.now)) (g.met.H.Hub.laws.seen.same c.args.hub.now)

pub returns-in-Err-clause-later : goal.returns-in-Err-clause-later
returns-in-Err-clause-later g c = g.met.H.Hub.laws.seen.same c.args.hub.now
