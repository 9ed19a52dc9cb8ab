use Rattle.session_core.proofs.Causes.{said_is_called_for}
use Rattle.session_core.proofs.saying_laws.said_is_called_for.Goals as goal

pub returns : goal.returns
returns g c = said_is_called_for g.H.Hub.meaning g.met.H.Hub.laws
