use Rattle.disk_calls.proofs.FrameLemmas.{looks_then, one_of_two, other_of_two, besides_then, elsewhere_streams, besides_streams, streams_then}
use Rattle.disk_calls.proofs.Chain.{looks_elsewhere, elsewhere_then}
use Rattle.disk_calls.proofs.laws.frames_join.Goals as goal

pub returns-clause-looks : goal.returns-clause-looks
returns-clause-looks g c = λ a b c. looks_then (g.D.Disk.state a) (g.D.Disk.state b) (g.D.Disk.state c)

pub returns-clause-looks_elsewhere : goal.returns-clause-looks_elsewhere
returns-clause-looks_elsewhere g c = λ id a b. looks_elsewhere id (g.D.Disk.state a) (g.D.Disk.state b)

pub returns-clause-elsewhere : goal.returns-clause-elsewhere
returns-clause-elsewhere g c = λ id a b c. elsewhere_then id (g.D.Disk.state a) (g.D.Disk.state b) (g.D.Disk.state c)

pub returns-clause-one_of_two : goal.returns-clause-one_of_two
returns-clause-one_of_two g c = λ one two a b. one_of_two one two (g.D.Disk.state a) (g.D.Disk.state b)

pub returns-clause-other_of_two : goal.returns-clause-other_of_two
returns-clause-other_of_two g c = λ one two a b. other_of_two one two (g.D.Disk.state a) (g.D.Disk.state b)

pub returns-clause-besides : goal.returns-clause-besides
returns-clause-besides g c = λ one two a b c. besides_then one two (g.D.Disk.state a) (g.D.Disk.state b) (g.D.Disk.state c)

pub returns-clause-elsewhere_streams : goal.returns-clause-elsewhere_streams
returns-clause-elsewhere_streams g c = λ id a b. elsewhere_streams id (g.D.Disk.state a) (g.D.Disk.state b)

pub returns-clause-besides_streams : goal.returns-clause-besides_streams
returns-clause-besides_streams g c = λ one two stream a b. besides_streams one two stream (g.D.Disk.state a) (g.D.Disk.state b)

pub returns-clause-streams : goal.returns-clause-streams
returns-clause-streams g c = λ stream a b c. streams_then stream (g.D.Disk.state a) (g.D.Disk.state b) (g.D.Disk.state c)
