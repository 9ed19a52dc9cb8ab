use Rattle.std.proofs.Common.{refl}
use Rattle.member_disk.proofs.DiskCalls.{left_by_crash}
use Rattle.member_disk.proofs.memory_disk.MemoryDisk.crash.Goals as goal

pub returns-clause-left : goal.returns-clause-left
returns-clause-left c = left_by_crash c.args.stream c.args.image _ _ _ _ refl c.crash_in.result c.crash_in.ensures.ok
