use Rattle.backed_streams.proofs.Disks.{backed_at}
use Rattle.backed_streams.proofs.stream_laws.one_disk_changes.Goals as goal

pub returns : goal.returns
returns g c = λ stream k w old new. backed_at g.D.Disk.state stream k w old new
