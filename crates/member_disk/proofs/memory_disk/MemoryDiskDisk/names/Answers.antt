use Rattle.member_disk.proofs.DiskCalls.{names_before}
use Rattle.member_disk.proofs.memory_disk.MemoryDiskDisk.names.Goals as goal

pub returns-clause-names : goal.returns-clause-names
returns-clause-names c = names_before c.args.stream c.args.stream _ _ c.in_ok-found.found c.if-count_in.ensures.counts c.in_ok-found.ensures
