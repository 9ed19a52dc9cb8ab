use Rattle.session_core.proofs.Silence.{silence_is_exact}
use Rattle.session_core.proofs.saying_laws.silence_is_exact.Goals as goal

pub returns : goal.returns
returns g c = silence_is_exact g.H.Hub.meaning g.met.H.Hub.laws
