use Rattle.replication_laws.proofs.Joined.{event_sound, offer_sound, steps_sound}
use Rattle.replication_laws.proofs.event_laws.events_keep_soundness.Goals as goal

pub returns : goal.returns
returns c = record { event = event_sound; offer = offer_sound; run = steps_sound }
