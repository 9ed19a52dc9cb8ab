use Rattle.backed_streams.proofs.Opened.{opened_backed, opened_in_hand, new_backed, recovered_starts}
use Rattle.backed_streams.proofs.return_laws.opened_streams_are_backed.Goals as goal

pub returns-clause-opened : goal.returns-clause-opened
returns-clause-opened g c = λ stream epoch starts disks. opened_backed stream epoch starts (λ j. g.D.Disk.state (disks j))

pub returns-clause-in_hand : goal.returns-clause-in_hand
returns-clause-in_hand g c = λ stream epoch starts stores disks. opened_in_hand stream epoch starts stores (λ j. g.D.Disk.state (disks j))

pub returns-clause-new : goal.returns-clause-new
returns-clause-new g c = λ stream starts disks. new_backed stream starts (λ j. g.D.Disk.state (disks j))

pub returns-clause-again : goal.returns-clause-again
returns-clause-again g c = λ told stream epoch w starts old new. recovered_starts stream epoch w starts (λ j. g.D.Disk.state (old j)) (λ j. g.D.Disk.state (new j)) (λ k f. g.met.D.Disk.reads_image (new k) f told)
