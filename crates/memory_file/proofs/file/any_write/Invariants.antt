use Rattle.std.proofs.Common.{◌≡◌, drop}
use Rattle.memory_file.specs.Memory.{has_write}
use Rattle.memory_file.proofs.file.any_write.Given as goal

abbrev pub invariant-loop-call : goal.invariant-loop-call
invariant-loop-call l = has_write l.calls ≡ has_write (drop l.call-index l.calls)
