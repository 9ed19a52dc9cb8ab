use Rattle.replication_laws.proofs.Claims.{sequence_stays, offer_goes_behind, open_sequence_log, committed_in}
use Rattle.replication_laws.proofs.confirm_laws.an_open_leaders_sequence_stays.Goals as goal

pub returns : goal.returns
returns c = record { event = sequence_stays; offer = offer_goes_behind; log = open_sequence_log; begins = committed_in }
