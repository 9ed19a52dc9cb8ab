use Rattle.session_core.proofs.Parting.{joined_pieces}
use Rattle.session_core.proofs.laws.pieces_join.Goals as goal

pub returns : goal.returns
returns g c = joined_pieces g.H.Hub.meaning
