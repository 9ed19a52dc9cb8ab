use Rattle.session_core.proofs.Saying.{replies_are_sayable}
use Rattle.session_core.proofs.saying_laws.replies_are_sayable.Goals as goal

pub returns : goal.returns
returns g c = replies_are_sayable g.H.Hub.meaning g.met.H.Hub.laws
