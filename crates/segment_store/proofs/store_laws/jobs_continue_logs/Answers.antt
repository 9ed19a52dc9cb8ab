use Rattle.segment_store.proofs.Lasting.{backed_rise, continues_log, continues_store}
use Rattle.segment_store.proofs.store_laws.jobs_continue_logs.Goals as goal

pub returns-clause-rise : goal.returns-clause-rise
returns-clause-rise g c = λ store chunks d. backed_rise store chunks (g.D.Disk.state d)

pub returns-clause-log : goal.returns-clause-log
returns-clause-log g c = λ store chunks d job. continues_log store chunks (g.D.Disk.state d) job

pub returns-clause-store : goal.returns-clause-store
returns-clause-store g c = λ store chunks d job. continues_store store chunks (g.D.Disk.state d) job
