-- The starts that a spawner is to fail: their numbers, from 1, and the starts so far, where it tells them.
use Rattle.std.specs.Prelude.{ℕ, List, Option, Some, None}
use Rattle.std.specs.Option.{option_map}
use Rattle.outside_io.specs.Causes.{next_count}
use Rattle.outside_io.specs.Memory.{FailsNext}

-- the next start is one of those
abbrev pub IsListed : Option (List ℕ × ℕ) → Type 0
IsListed None = ⊥
IsListed (Some starts) = FailsNext starts.0 starts.1

-- one start more was made
abbrev pub after_start : Option (List ℕ × ℕ) → Option (List ℕ × ℕ)
after_start starts = option_map (λ s. (s.0, next_count s.1)) starts
