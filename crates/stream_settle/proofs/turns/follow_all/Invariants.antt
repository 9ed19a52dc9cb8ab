use Rattle.settling_laws.specs.Settling.{Letters}
use Rattle.stream_settle.specs.Settles.{Goes, Leads, around}
use Rattle.stream_settle.proofs.turns.follow_all.Given as goal

abbrev pub invariant-turns : goal.invariant-turns
invariant-turns g l = Goes g.D.Disk.tells g.D.Disk.state (Leads l.fn.now Letters Letters) l.fn.cluster l.cluster (around l.fn.disks l.fn.epochs l.fn.stores) (around l.disks l.epochs l.stores)
