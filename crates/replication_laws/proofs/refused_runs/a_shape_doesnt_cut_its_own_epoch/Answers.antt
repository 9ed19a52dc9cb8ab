use Rattle.replication_laws.proofs.Refusals.{caught_sound, late_shape, shape_lost}
use Rattle.replication_laws.proofs.refused_runs.a_shape_doesnt_cut_its_own_epoch.Goals as goal

pub returns : goal.returns
returns c = record { sound = caught_sound; late = late_shape; lost = shape_lost }
