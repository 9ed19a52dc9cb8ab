use Rattle.std.proofs.Common.{◌≤◌, drop}
use Rattle.segment_pairs.specs.Held.{OutsideLog}
use Rattle.segment_store.specs.Recoverable.{LogRecoverable}
use Rattle.segment_store.proofs.RecoveryNumbers.{ClearsTo}
use Rattle.segment_store.proofs.clear.clear_numbers.Given as goal

abbrev pub invariant-loop-number : goal.invariant-loop-number
invariant-loop-number g l = record {
  clears : g.D.Disk.tells → ClearsTo l.fn.stream l.kept.items (drop l.number-index l.numbers) (g.D.Disk.state l.fn.disk) (g.D.Disk.state l.disk);
  recoverable : g.D.Disk.tells → LogRecoverable l.fn.stream (g.D.Disk.state l.fn.disk) → LogRecoverable l.fn.stream (g.D.Disk.state l.disk);
  others : OutsideLog l.fn.stream (g.D.Disk.state l.fn.disk) (g.D.Disk.state l.disk);
  later : (g.D.Disk.state l.fn.disk).faults ≤ (g.D.Disk.state l.disk).faults;
}
