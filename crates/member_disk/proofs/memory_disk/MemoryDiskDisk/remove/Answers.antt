use Rattle.member_disk.specs.FilesInOrder.{without}
use Rattle.member_disk.proofs.DiskCalls.{did_remove, did_remove_missing}
use Rattle.member_disk.proofs.memory_disk.MemoryDiskDisk.remove.Goals as goal

pub returns-clause-changes : goal.returns-clause-changes
returns-clause-changes c = did_remove c.args.id (without c.args.id.file) _ _ _ _ _ c.remove_counted-did.result c.remove_counted-did.ensures

pub returns-clause-missing : goal.returns-clause-missing
returns-clause-missing c = did_remove_missing c.args.id (without c.args.id.file) _ _ _ _ _ c.remove_counted-did.result c.remove_counted-did.ensures
