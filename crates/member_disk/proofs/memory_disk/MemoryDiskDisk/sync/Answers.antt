use Rattle.member_disk.specs.FilesInOrder.{without}
use Rattle.member_disk.proofs.DiskCalls.{did_sync}
use Rattle.member_disk.proofs.memory_disk.MemoryDiskDisk.sync.Goals as goal

pub returns-clause-looks : goal.returns-clause-looks
returns-clause-looks c = did_sync c.args.id (without c.args.id.file) _ _ _ _ _ c.sync_counted-did.result c.sync_counted-did.ensures
