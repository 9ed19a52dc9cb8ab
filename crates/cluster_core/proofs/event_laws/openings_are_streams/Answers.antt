use Rattle.cluster_core.proofs.Streams.{opened_stream}
use Rattle.cluster_core.proofs.event_laws.openings_are_streams.Goals as goal

pub returns : goal.returns
returns c = opened_stream
