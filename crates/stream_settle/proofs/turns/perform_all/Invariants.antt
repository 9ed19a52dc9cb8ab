use Rattle.stream_settle.specs.Settles.{Goes, Advances, around}
use Rattle.stream_settle.proofs.turns.perform_all.Given as goal

abbrev pub invariant-turns : goal.invariant-turns
invariant-turns g l = Goes g.D.Disk.tells g.D.Disk.state (Advances l.fn.now) l.fn.cluster l.cluster (around l.fn.disks l.fn.epochs l.fn.stores) (around l.disks l.epochs l.stores)
