use Rattle.replication_laws.proofs.Meetings.{flags_are}
use Rattle.replication_laws.proofs.opening_laws.electors_are_flags.Goals as goal

pub returns : goal.returns
returns c = flags_are
