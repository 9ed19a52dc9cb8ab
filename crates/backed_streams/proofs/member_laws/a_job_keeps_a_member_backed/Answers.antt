use Rattle.backed_streams.proofs.Doings.{job_left, job_in_hand, job_done}
use Rattle.backed_streams.proofs.member_laws.a_job_keeps_a_member_backed.Goals as goal

pub returns-clause-left : goal.returns-clause-left
returns-clause-left g c = λ stream m job number store after result old new. job_left stream m job number store after result (g.D.Disk.state old) (g.D.Disk.state new)

pub returns-clause-in_hand : goal.returns-clause-in_hand
returns-clause-in_hand g c = λ stream m job number store after receipt old new. job_in_hand stream m job number store after receipt (g.D.Disk.state old) (g.D.Disk.state new)

pub returns-clause-done : goal.returns-clause-done
returns-clause-done g c = λ stream m job number store after receipt old new. job_done stream m job number store after receipt (g.D.Disk.state old) (g.D.Disk.state new)
