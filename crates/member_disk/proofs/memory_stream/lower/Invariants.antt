use Rattle.std.proofs.Common.{◌≡◌, ◌-◌, ℕ, map, ◌++◌, take, drop}
use Rattle.member_disk.proofs.memory_stream.lower.Given as goal

abbrev pub invariant-loop-n : goal.invariant-loop-n
invariant-loop-n l = l.settings ≡ map (λ (n : ℕ). n - 1) (take l.n-index l.initial.settings) ++ drop l.n-index l.initial.settings
