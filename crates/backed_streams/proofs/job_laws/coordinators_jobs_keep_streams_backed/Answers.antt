use Rattle.backed_streams.proofs.DoneJobs.{epoch_left_all, epoch_then, epoch_due, epoch_in_hand, epoch_apart_all}
use Rattle.backed_streams.proofs.job_laws.coordinators_jobs_keep_streams_backed.Goals as goal

pub returns-clause-left : goal.returns-clause-left
returns-clause-left g c = λ stream w epoch number result hand now old new. epoch_left_all g.D.Disk.state stream w epoch number result hand now old new

pub returns-clause-then : goal.returns-clause-then
returns-clause-then g c = λ stream due came r after epoch number result hand now old new. epoch_then g.D.Disk.state stream due came r after epoch number result hand now old new

pub returns-clause-due : goal.returns-clause-due
returns-clause-due g c = λ stream r epoch number receipt hand now old new. epoch_due g.D.Disk.state stream r epoch number receipt hand now old new

pub returns-clause-in_hand : goal.returns-clause-in_hand
returns-clause-in_hand g c = λ stream due came r after epoch number result hand now stores old new. epoch_in_hand g.D.Disk.state stream due came r after epoch number result hand now stores old new

pub returns-clause-apart : goal.returns-clause-apart
returns-clause-apart g c = λ stream other epoch number w result hand now old new. epoch_apart_all g.D.Disk.state stream other epoch number w result hand now old new
