use Rattle.disk_calls.proofs.FrameLemmas.{settled_stays, holds_stays, gone_stays, none_lost_stays}
use Rattle.disk_calls.proofs.laws.known_files_stay.Goals as goal

pub returns-clause-settled : goal.returns-clause-settled
returns-clause-settled g c = λ id bytes a b. settled_stays id bytes (g.D.Disk.state a) (g.D.Disk.state b)

pub returns-clause-holds : goal.returns-clause-holds
returns-clause-holds g c = λ id bytes a b. holds_stays id bytes (g.D.Disk.state a) (g.D.Disk.state b)

pub returns-clause-gone : goal.returns-clause-gone
returns-clause-gone g c = λ id a b. gone_stays id (g.D.Disk.state a) (g.D.Disk.state b)

pub returns-clause-none_lost : goal.returns-clause-none_lost
returns-clause-none_lost g c = λ id a b. none_lost_stays id (g.D.Disk.state a) (g.D.Disk.state b)
