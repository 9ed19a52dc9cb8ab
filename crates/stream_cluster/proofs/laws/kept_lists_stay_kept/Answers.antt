use Rattle.stream_cluster.proofs.Lasting.{offer_kept, offset_kept}
use Rattle.stream_cluster.proofs.laws.kept_lists_stay_kept.Goals as goal

pub returns : goal.returns
returns c = record { offer = offer_kept; offset = offset_kept }
