use Rattle.replication_laws.proofs.Joined.{step_kept, steps_kept, committed_kept}
use Rattle.replication_laws.proofs.event_laws.kept_lists_stay_kept.Goals as goal

pub returns : goal.returns
returns c = record { step = step_kept; run = steps_kept; committed = committed_kept }
