use Rattle.replication_laws.proofs.Reopened.{recovered_passes, recovered_dont, reopened_sound, reopened_stays}
use Rattle.replication_laws.proofs.opening_laws.what_is_left_is_opened_again.Goals as goal

pub returns : goal.returns
returns c = record {
  whole = recovered_passes;
  none_diverges = recovered_dont;
  sound = λ o epoch w ss s r. reopened_sound w o epoch ss s r;
  kept = reopened_stays;
}
