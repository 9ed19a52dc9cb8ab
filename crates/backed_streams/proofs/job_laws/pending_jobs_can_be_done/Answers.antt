use Rattle.backed_streams.proofs.DoneJobs.{job_continues, own_log, store_continues}
use Rattle.backed_streams.proofs.job_laws.pending_jobs_can_be_done.Goals as goal

pub returns-clause-log : goal.returns-clause-log
returns-clause-log g c = λ k w job. job_continues w k job

pub returns-clause-store : goal.returns-clause-store
returns-clause-store g c = λ stream k w job store d. store_continues stream k w job store (g.D.Disk.state d)

pub returns-clause-own : goal.returns-clause-own
returns-clause-own g c = λ k w. own_log w k
