use Rattle.backed_streams.proofs.Doings.{epoch_job_left, epoch_job_done, epoch_job_apart}
use Rattle.backed_streams.proofs.epoch_laws.a_job_keeps_an_epoch_backed.Goals as goal

pub returns-clause-left : goal.returns-clause-left
returns-clause-left g c = λ stream epoch number k hand after result old new. epoch_job_left stream epoch number k hand after result (g.D.Disk.state old) (g.D.Disk.state new)

pub returns-clause-done : goal.returns-clause-done
returns-clause-done g c = λ stream epoch number k hand after receipt old new. epoch_job_done stream epoch number k hand after receipt (g.D.Disk.state old) (g.D.Disk.state new)

pub returns-clause-apart : goal.returns-clause-apart
returns-clause-apart g c = λ stream other epoch number k hand after result old new. epoch_job_apart stream other epoch number k hand after result (g.D.Disk.state old) (g.D.Disk.state new)
