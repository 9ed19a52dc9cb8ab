use Rattle.std.proofs.Common.{◌≡◌, ◌≤◌, length, take}
use Rattle.memory_file.specs.Undone.{undone}
use Rattle.memory_file.proofs.file.undo.Given as goal

abbrev pub invariant-loop-left : goal.invariant-loop-left
invariant-loop-left l = (l.left ≤ length l.took) × (undone (take l.left l.took) l.file ≡ undone l.took l.fn.file)

abbrev pub decreases-loop-left : goal.decreases-loop-left
decreases-loop-left l = l.left
