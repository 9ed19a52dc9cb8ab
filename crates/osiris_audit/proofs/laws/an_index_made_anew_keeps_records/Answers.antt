use Rattle.osiris_audit.proofs.Running.{keep_records}
use Rattle.osiris_audit.proofs.laws.an_index_made_anew_keeps_records.Goals as goal

pub returns : goal.returns
returns c = record { keeps = keep_records }
