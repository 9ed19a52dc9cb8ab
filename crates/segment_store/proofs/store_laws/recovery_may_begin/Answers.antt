use Rattle.segment_store.proofs.RecoveryWhole.{none_crash, none_looks, none_streams}
use Rattle.segment_store.proofs.Keeping.{backed_recoverable, recoverable_can}
use Rattle.segment_store.proofs.store_laws.recovery_may_begin.Goals as goal

pub returns-clause-crash : goal.returns-clause-crash
returns-clause-crash g c = λ stream old new. none_crash stream (g.D.Disk.state old) (g.D.Disk.state new)

pub returns-clause-looks : goal.returns-clause-looks
returns-clause-looks g c = λ stream old new. none_looks stream (g.D.Disk.state old) (g.D.Disk.state new)

pub returns-clause-streams : goal.returns-clause-streams
returns-clause-streams g c = λ stream of old new. none_streams stream of (g.D.Disk.state old) (g.D.Disk.state new)

pub returns-clause-store : goal.returns-clause-store
returns-clause-store g c = λ told store chunks d backed. (recoverable_can store.stream (g.D.Disk.state d) (λ f. g.met.D.Disk.reads_image d f told) (backed_recoverable store chunks (g.D.Disk.state d) backed)).returns
