use Rattle.segment_store.proofs.Lasting.{keeps_crash, keeps_looks, keeps_streams}
use Rattle.backed_streams.proofs.OneDisk.{member_holds, in_hand_backed, none_holds, member_keeps}
use Rattle.backed_streams.proofs.member_laws.members_disks_stay_backed.Goals as goal

pub returns-clause-holds : goal.returns-clause-holds
returns-clause-holds g c = λ stream m d. member_holds stream m (g.D.Disk.state d)

pub returns-clause-in_hand : goal.returns-clause-in_hand
returns-clause-in_hand g c = λ stream m store d. in_hand_backed stream m store (g.D.Disk.state d)

pub returns-clause-none : goal.returns-clause-none
returns-clause-none g c = λ stream d. none_holds stream (g.D.Disk.state d)

pub returns-clause-keeps : goal.returns-clause-keeps
returns-clause-keeps g c = λ stream m old new. member_keeps stream m (g.D.Disk.state old) (g.D.Disk.state new)

pub returns-clause-crash : goal.returns-clause-crash
returns-clause-crash g c = λ stream of m old new crash. member_keeps stream m (g.D.Disk.state old) (g.D.Disk.state new) (keeps_crash stream of (g.D.Disk.state old) (g.D.Disk.state new) crash)

pub returns-clause-looks : goal.returns-clause-looks
returns-clause-looks g c = λ stream m old new looks. member_keeps stream m (g.D.Disk.state old) (g.D.Disk.state new) (keeps_looks stream (g.D.Disk.state old) (g.D.Disk.state new) looks)

pub returns-clause-streams : goal.returns-clause-streams
returns-clause-streams g c = λ told stream of m old new ne others. member_keeps stream m (g.D.Disk.state old) (g.D.Disk.state new) (keeps_streams stream of (g.D.Disk.state old) (g.D.Disk.state new) (λ f. g.met.D.Disk.reads_image old f told) ne others)
