use Rattle.disk_calls.proofs.FrameLemmas.{elsewhere_stay, looks_stay}
use Rattle.gated_words.specs.Files.{second_file}
use Rattle.gated_words.proofs.Hands.{crash_backs, crash_has, stays_backs}
use Rattle.gated_words.proofs.laws.pairs_stay_backed.Goals as goal

pub returns-clause-crash : goal.returns-clause-crash
returns-clause-crash g c = λ hand stream old new. crash_backs hand stream (g.D.Disk.state old) (g.D.Disk.state new)

pub returns-clause-looks : goal.returns-clause-looks
returns-clause-looks g c = λ hand old new looks.
    let a = g.D.Disk.state old in
    let b = g.D.Disk.state new in
    stays_backs hand a b (looks_stay hand.id a b looks) (looks_stay (second_file hand.id) a b looks)

pub returns-clause-elsewhere : goal.returns-clause-elsewhere
returns-clause-elsewhere g c = λ hand id old new one two others.
    let a = g.D.Disk.state old in
    let b = g.D.Disk.state new in
    stays_backs hand a b (elsewhere_stay hand.id id a b one others) (elsewhere_stay (second_file hand.id) id a b two others)

pub returns-clause-has : goal.returns-clause-has
returns-clause-has g c = λ id pairs old new. crash_has id pairs (g.D.Disk.state old) (g.D.Disk.state new)
