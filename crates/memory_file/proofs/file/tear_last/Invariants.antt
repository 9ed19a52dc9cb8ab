use Rattle.std.proofs.Common.{◌≡◌, drop}
use Rattle.memory_file.specs.Memory.{all_done, torn_last, half, all_a5}
use Rattle.memory_file.proofs.file.tear_last.Given as goal

abbrev pub invariant-loop-i : goal.invariant-loop-i
invariant-loop-i l = (l.image ≡ 2 → all_done (torn_last half l.calls) l.fn.file ≡ all_done (torn_last half (drop l.i l.calls)) l.file) × (l.image ≡ 3 → all_done (torn_last all_a5 l.calls) l.fn.file ≡ all_done (torn_last all_a5 (drop l.i l.calls)) l.file)
