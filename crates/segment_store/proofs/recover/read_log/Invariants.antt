use Rattle.std.proofs.Common.{◌≤◌, drop}
use Rattle.disk_calls.specs.Disk.{Looks}
use Rattle.segment_store.proofs.RecoveryLast.{WalksTo}
use Rattle.segment_store.proofs.recover.read_log.Given as goal

abbrev pub invariant-loop-next : goal.invariant-loop-next
invariant-loop-next g l = record {
  looks : Looks (g.D.Disk.state l.fn.disk) (g.D.Disk.state l.disk);
  walks : g.D.Disk.tells → WalksTo l.fn.stream l.number l.found.rows.items l.found.chunks.items (drop l.next-index l.numbers) (g.D.Disk.state l.disk);
  later : (g.D.Disk.state l.fn.disk).faults ≤ (g.D.Disk.state l.disk).faults;
}
