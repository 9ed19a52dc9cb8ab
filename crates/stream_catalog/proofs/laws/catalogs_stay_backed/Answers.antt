use Rattle.stream_catalog.proofs.Staying.{backed_stays, backed_outlasts}
use Rattle.stream_catalog.proofs.laws.catalogs_stay_backed.Goals as goal

pub returns-clause-stays : goal.returns-clause-stays
returns-clause-stays g c = λ hand old new. backed_stays hand (g.D.Disk.state old) (g.D.Disk.state new)

pub returns-clause-crash : goal.returns-clause-crash
returns-clause-crash g c = λ hand stream old new. backed_outlasts hand stream (g.D.Disk.state old) (g.D.Disk.state new)
