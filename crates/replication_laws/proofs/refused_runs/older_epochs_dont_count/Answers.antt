use Rattle.replication_laws.proofs.Refusals.{older_sound, older_ask, older_lost}
use Rattle.replication_laws.proofs.refused_runs.older_epochs_dont_count.Goals as goal

pub returns : goal.returns
returns c = record { sound = older_sound; asked = older_ask; lost = older_lost }
