use Rattle.backed_streams.proofs.OneDisk.{recovered_may, restarted_backed}
use Rattle.backed_streams.proofs.member_laws.a_recovered_member_is_backed.Goals as goal

pub returns-clause-may : goal.returns-clause-may
returns-clause-may g c = λ told stream promise chunks m old new. recovered_may stream promise chunks m (g.D.Disk.state old) (g.D.Disk.state new) (λ f. g.met.D.Disk.reads_image new f told)

pub returns-clause-backed : goal.returns-clause-backed
returns-clause-backed g c = λ stream members k promise chunks d. restarted_backed stream members k promise chunks (g.D.Disk.state d)

pub returns-clause-in_hand : goal.returns-clause-in_hand
returns-clause-in_hand g c = λ stream members k promise chunks store d same number word backed. record { stream_is = same; member_is = number; backed = backed; promised = word }
