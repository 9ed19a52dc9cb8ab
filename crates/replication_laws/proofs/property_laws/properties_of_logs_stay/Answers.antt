use Rattle.replication_laws.proofs.Properties.{event_with, offer_with, all_have, with_sound}
use Rattle.replication_laws.proofs.property_laws.properties_of_logs_stay.Goals as goal

pub returns : goal.returns
returns g c = record { event = event_with _; offer = offer_with _; all = all_have _; sound = with_sound _ }
