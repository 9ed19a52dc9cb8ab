use Rattle.session_link.proofs.Runs.{runs_to}
use Rattle.session_link.proofs.serving.serve_link.Goals as goal

pub returns-clause-runs : goal.returns-clause-runs
returns-clause-runs g c = runs_to g.H.Hub.meaning _ c.serve-how.result c.serve-how.new.session c.serve-how.new.hub c.leave.new.hub _ _ _ c.serve-how.ensures.runs c.leave.ensures.leaves
