use Rattle.backed_streams.proofs.DoneJobs.{member_left, member_then, member_due, member_in_hand, member_apart, hands_apart}
use Rattle.backed_streams.proofs.job_laws.members_jobs_keep_streams_backed.Goals as goal

pub returns-clause-left : goal.returns-clause-left
returns-clause-left g c = λ stream k w job number result stores now old new. member_left g.D.Disk.state stream k w job number result stores now old new

pub returns-clause-then : goal.returns-clause-then
returns-clause-then g c = λ stream k due came r after job number result stores now old new. member_then g.D.Disk.state stream k due came r after job number result stores now old new

pub returns-clause-due : goal.returns-clause-due
returns-clause-due g c = λ stream k r job number receipt stores now old new. member_due g.D.Disk.state stream k r job number receipt stores now old new

pub returns-clause-in_hand : goal.returns-clause-in_hand
returns-clause-in_hand g c = λ stream k due r after job number result stores now old new. member_in_hand g.D.Disk.state stream k due r after job number result stores now old new

pub returns-clause-apart : goal.returns-clause-apart
returns-clause-apart g c = λ told stream of k w old new. member_apart g.D.Disk.state stream of k w old new (λ d f. g.met.D.Disk.reads_image d f told)

pub returns-clause-apart_in_hand : goal.returns-clause-apart_in_hand
returns-clause-apart_in_hand g c = λ stream of k w stores old new. hands_apart g.D.Disk.state stream of k w stores old new
