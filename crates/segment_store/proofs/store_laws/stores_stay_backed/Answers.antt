use Rattle.segment_store.proofs.Lasting.{backed_holds, backed_looks, backed_streams, backed_crash}
use Rattle.segment_store.proofs.store_laws.stores_stay_backed.Goals as goal

pub returns-clause-holds : goal.returns-clause-holds
returns-clause-holds g c = λ store chunks d. backed_holds store chunks (g.D.Disk.state d)

pub returns-clause-looks : goal.returns-clause-looks
returns-clause-looks g c = λ store chunks old new. backed_looks store chunks (g.D.Disk.state old) (g.D.Disk.state new)

pub returns-clause-streams : goal.returns-clause-streams
returns-clause-streams g c = λ store chunks stream old new. backed_streams store chunks stream (g.D.Disk.state old) (g.D.Disk.state new)

pub returns-clause-crash : goal.returns-clause-crash
returns-clause-crash g c = λ store chunks stream old new. backed_crash store chunks stream (g.D.Disk.state old) (g.D.Disk.state new)
