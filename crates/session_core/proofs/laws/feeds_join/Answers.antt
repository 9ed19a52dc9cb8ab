use Rattle.session_core.proofs.Timing.{feeds_join}
use Rattle.session_core.proofs.laws.feeds_join.Goals as goal

pub returns : goal.returns
returns g c = feeds_join g.H.Hub.meaning g.met.H.Hub.laws.seen
