use Rattle.disk_calls.proofs.FrameLemmas.{settled_outlasts, holds_outlasts, gone_outlasts, none_lost_outlasts}
use Rattle.disk_calls.proofs.laws.known_files_outlast_crashes.Goals as goal

pub returns-clause-settled : goal.returns-clause-settled
returns-clause-settled g c = λ id bytes stream a b. settled_outlasts id bytes stream (g.D.Disk.state a) (g.D.Disk.state b)

pub returns-clause-holds : goal.returns-clause-holds
returns-clause-holds g c = λ id bytes stream a b. holds_outlasts id bytes stream (g.D.Disk.state a) (g.D.Disk.state b)

pub returns-clause-gone : goal.returns-clause-gone
returns-clause-gone g c = λ id stream a b. gone_outlasts id stream (g.D.Disk.state a) (g.D.Disk.state b)

pub returns-clause-none_lost : goal.returns-clause-none_lost
returns-clause-none_lost g c = λ id stream a b. none_lost_outlasts id stream (g.D.Disk.state a) (g.D.Disk.state b)
