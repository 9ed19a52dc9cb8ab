use Rattle.replication_laws.proofs.Refusals.{alone_sound, alone_lost}
use Rattle.replication_laws.proofs.refused_runs.a_leader_alone_is_no_majority.Goals as goal

pub returns : goal.returns
returns c = record { sound = alone_sound; lost = alone_lost }
