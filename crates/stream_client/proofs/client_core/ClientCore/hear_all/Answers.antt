use Rattle.stream_client.proofs.Hearsay.{heard_to}
use Rattle.stream_client.proofs.client_core.ClientCore.hear_all.Goals as goal

pub returns-in-Err : goal.returns-in-Err
returns-in-Err c = heard_to _ _ _ _ c.frames.invariant c.in-Err.ensures
