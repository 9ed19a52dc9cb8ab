use Rattle.std.proofs.Common.{take}
use Rattle.committed_view.specs.Published.{BeginsWithEach}
use Rattle.committed_view.proofs.pass.begins_with_each.Given as goal

abbrev pub invariant-loop-note : goal.invariant-loop-note
invariant-loop-note l = BeginsWithEach (take l.note-index l.told) l.list
