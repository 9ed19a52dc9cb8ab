use Rattle.settling_laws.proofs.Refused.{numbers_begin_again}
use Rattle.settling_laws.proofs.refused_runs.numbering_begins_again.Goals as goal

pub returns : goal.returns
returns c = numbers_begin_again
