use Rattle.tracking_state.proofs.Tracks.{snapshot_noted}
use Rattle.tracking_state.proofs.Listed.{listed_of_log}
use Rattle.tracking_state.proofs.Restored.{noted_again}
use Rattle.tracking_state.proofs.laws.a_snapshot_changes_nothing.Goals as goal

pub returns : goal.returns
returns c = record { lists = listed_of_log; chunk = snapshot_noted; entries = noted_again }
