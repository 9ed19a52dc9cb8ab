use Rattle.stream_client.proofs.Hearsay.{unspelt_stops, large_stops, hears_told}
use Rattle.stream_client.proofs.client_core.ClientCore.hear_next.Goals as goal

pub returns-in-Ok-Unspelt : goal.returns-in-Ok-Unspelt
returns-in-Ok-Unspelt c = unspelt_stops _ _ _ _ _ _ c.self.view_is c.in-Ok-Unspelt.field-0-is c.in-Ok-Unspelt.ensures.given

pub returns-in-Ok-TooLarge : goal.returns-in-Ok-TooLarge
returns-in-Ok-TooLarge c = large_stops _ _ _ _ _ _ c.self.view_is c.in-Ok-TooLarge.field-0-is c.in-Ok-TooLarge.ensures.given

pub returns-in-Ok-Command : goal.returns-in-Ok-Command
returns-in-Ok-Command c = hears_told _ _ _ _ _ _ _ _ _ c.self.view_is c.in-Ok-Command.field-0-is c.in-Ok-Command.ensures.given c.hear_owned.ensures c.told.ensures
