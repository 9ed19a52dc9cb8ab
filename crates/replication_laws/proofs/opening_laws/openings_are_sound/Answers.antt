use Rattle.replication_laws.proofs.Starts.{start_sound}
use Rattle.replication_laws.proofs.Reopened.{agreed_dont}
use Rattle.replication_laws.proofs.opening_laws.openings_are_sound.Goals as goal

pub returns : goal.returns
returns c = record { sound = start_sound; agreed = agreed_dont }
