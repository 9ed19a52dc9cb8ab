use Rattle.disk_calls.proofs.FrameLemmas.{looks_stay, elsewhere_stay, besides_stay, streams_stay, crash_stay, stay_then}
use Rattle.disk_calls.proofs.laws.files_stay.Goals as goal

pub returns-clause-looks : goal.returns-clause-looks
returns-clause-looks g c = λ f a b. looks_stay f (g.D.Disk.state a) (g.D.Disk.state b)

pub returns-clause-elsewhere : goal.returns-clause-elsewhere
returns-clause-elsewhere g c = λ f id a b. elsewhere_stay f id (g.D.Disk.state a) (g.D.Disk.state b)

pub returns-clause-besides : goal.returns-clause-besides
returns-clause-besides g c = λ f one two a b. besides_stay f one two (g.D.Disk.state a) (g.D.Disk.state b)

pub returns-clause-streams : goal.returns-clause-streams
returns-clause-streams g c = λ f stream a b. streams_stay f stream (g.D.Disk.state a) (g.D.Disk.state b)

pub returns-clause-crash : goal.returns-clause-crash
returns-clause-crash g c = λ f stream a b. crash_stay f stream (g.D.Disk.state a) (g.D.Disk.state b)

pub returns-clause-then : goal.returns-clause-then
returns-clause-then g c = λ f a b c. stay_then f (g.D.Disk.state a) (g.D.Disk.state b) (g.D.Disk.state c)
