use Rattle.cluster_core.proofs.Streams.{goes_stream, offer_keeps, stays_kept, grows, rises}
use Rattle.cluster_core.proofs.event_laws.steps_keep_what_holds.Goals as goal

pub returns : goal.returns
returns c = record { stream = goes_stream; offers = offer_keeps; kept = stays_kept; grows = grows; rises = rises }
