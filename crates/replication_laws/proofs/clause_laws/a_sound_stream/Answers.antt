use Rattle.replication_laws.proofs.Joined.{committed_kept}
use Rattle.replication_laws.proofs.Consequences.{bounded, occurrences_agree, epochs_open, leaders_lead, elections_are_still, asks_are_true}
use Rattle.replication_laws.proofs.clause_laws.a_sound_stream.Goals as goal

pub returns : goal.returns
returns c = record {
  bounded = bounded;
  occurrences = occurrences_agree;
  epochs = epochs_open;
  leaders = leaders_lead;
  elections = elections_are_still;
  asks = asks_are_true;
  committed = committed_kept;
}
