use Rattle.stream_cluster.proofs.Lasting.{offer_rises, offset_rises}
use Rattle.stream_cluster.proofs.laws.ids_rise_on.Goals as goal

pub returns : goal.returns
returns c = record { offer = offer_rises; offset = offset_rises }
