use Rattle.std.proofs.Common.{◌∙◌}
use Rattle.memory_file.specs.declared.file.Call.TheVariants as call
use Rattle.member_disk.proofs.DiskCalls.{did_changes, did_call, cut_there}
use Rattle.member_disk.proofs.memory_disk.MemoryDiskDisk.cut.Goals as goal

pub returns-clause-changes : goal.returns-clause-changes
returns-clause-changes c = did_changes c.args.id (call.Cut c.args.size) (λ fs. fs) _ _ _ _ _ c.cut_counted-did.result c.cut_counted-did.ensures

pub returns-clause-written : goal.returns-clause-written
returns-clause-written c = λ is. did_call c.args.id (call.Cut c.args.size) (λ fs. fs) _ _ _ _ _ _ _ c.cut_counted-did.result c.answer.result c.cut_counted-did.ensures c.answer.ensures is ∙ cut_there c.args.size _ c.requires
