use Rattle.segment_store.proofs.Keeping.{backed_recoverable, crash_recoverable, looks_recoverable, none_recoverable, recoverable_can, recoverable_opens, streams_recoverable}
use Rattle.segment_store.proofs.store_laws.recoverable_files_recover.Goals as goal

pub returns-clause-store : goal.returns-clause-store
returns-clause-store g c = λ store chunks d. backed_recoverable store chunks (g.D.Disk.state d)

pub returns-clause-none : goal.returns-clause-none
returns-clause-none g c = λ stream d. none_recoverable stream (g.D.Disk.state d)

pub returns-clause-crash : goal.returns-clause-crash
returns-clause-crash g c = λ stream of old new. crash_recoverable stream of (g.D.Disk.state old) (g.D.Disk.state new)

pub returns-clause-looks : goal.returns-clause-looks
returns-clause-looks g c = λ stream old new. looks_recoverable stream (g.D.Disk.state old) (g.D.Disk.state new)

pub returns-clause-streams : goal.returns-clause-streams
returns-clause-streams g c = λ told stream of old new. streams_recoverable stream of (g.D.Disk.state old) (g.D.Disk.state new) (λ f. g.met.D.Disk.reads_image old f told)

pub returns-clause-can : goal.returns-clause-can
returns-clause-can g c = λ told stream d. recoverable_can stream (g.D.Disk.state d) (λ f. g.met.D.Disk.reads_image d f told)

pub returns-clause-opens : goal.returns-clause-opens
returns-clause-opens g c = λ told stream d. recoverable_opens stream (g.D.Disk.state d) (λ f. g.met.D.Disk.reads_image d f told)
