use Rattle.session_core.proofs.PollParts.{deliveries_join}
use Rattle.session_core.proofs.polling.deliveries_join.Goals as goal

pub returns : goal.returns
returns g c = deliveries_join g.H.Hub.meaning g.met.H.Hub.laws
