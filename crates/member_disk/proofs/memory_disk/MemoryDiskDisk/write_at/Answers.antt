use Rattle.std.proofs.Common.{◌∷◌, [], ◌++◌}
use Rattle.memory_file.specs.declared.file.Call.TheVariants as call
use Rattle.member_disk.proofs.DiskCalls.{did_changes, did_call}
use Rattle.member_disk.proofs.memory_disk.MemoryDiskDisk.write_at.Goals as goal

pub returns-clause-changes : goal.returns-clause-changes
returns-clause-changes c = did_changes c.args.id (call.Write c.args.place c.args.bytes.now) (λ fs. fs ++ c.args.id.file ∷ []) _ _ _ _ _ c.write_counted-did.result c.write_counted-did.ensures.takes

pub returns-clause-written : goal.returns-clause-written
returns-clause-written c = did_call c.args.id (call.Write c.args.place c.args.bytes.now) (λ fs. fs ++ c.args.id.file ∷ []) _ _ _ _ _ _ _ c.write_counted-did.result c.answer.result c.write_counted-did.ensures.takes c.answer.ensures
