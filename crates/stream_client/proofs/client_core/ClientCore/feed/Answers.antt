use Rattle.stream_client.proofs.Hearsay.{feeds_piece}
use Rattle.stream_client.proofs.client_core.ClientCore.feed.Goals as goal

pub returns-in-Ok : goal.returns-in-Ok
returns-in-Ok c = feeds_piece _ _ _ _ _ _ _ c.self.view_is c.in-Ok.ensures.taken c.hear_all.ensures
