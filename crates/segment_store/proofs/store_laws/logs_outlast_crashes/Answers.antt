use Rattle.segment_store.proofs.Lasting.{keeps_looks, keeps_crash, keeps_streams, keeps_then, keeps_holds, one_log, one_promise}
use Rattle.segment_store.proofs.store_laws.logs_outlast_crashes.Goals as goal

pub returns-clause-looks : goal.returns-clause-looks
returns-clause-looks g c = λ stream old new. keeps_looks stream (g.D.Disk.state old) (g.D.Disk.state new)

pub returns-clause-crash : goal.returns-clause-crash
returns-clause-crash g c = λ stream of old new. keeps_crash stream of (g.D.Disk.state old) (g.D.Disk.state new)

pub returns-clause-streams : goal.returns-clause-streams
returns-clause-streams g c = λ told stream of old new. keeps_streams stream of (g.D.Disk.state old) (g.D.Disk.state new) (λ f. g.met.D.Disk.reads_image old f told)

pub returns-clause-then : goal.returns-clause-then
returns-clause-then g c = λ stream one two three. keeps_then stream (g.D.Disk.state one) (g.D.Disk.state two) (g.D.Disk.state three)

pub returns-clause-holds : goal.returns-clause-holds
returns-clause-holds g c = λ stream chunks promise old new. keeps_holds stream chunks promise (g.D.Disk.state old) (g.D.Disk.state new)

pub returns-clause-one_log : goal.returns-clause-one_log
returns-clause-one_log g c = λ told F stream a b p q d. one_log F stream a b p q (g.D.Disk.state d) (λ f. g.met.D.Disk.reads_image d f told)

pub returns-clause-one_promise : goal.returns-clause-one_promise
returns-clause-one_promise g c = λ told stream a b p q d. one_promise stream a b p q (g.D.Disk.state d) (λ f. g.met.D.Disk.reads_image d f told)
