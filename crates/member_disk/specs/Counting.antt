-- Counts of what failed.
use Rattle.std.specs.Prelude.{◌≡◌, ℕ, ◌+◌, ◌-◌, ◌^◌, min}

-- a count that rose by one, or stands at its end
abbrev pub risen : ℕ → ℕ
risen count = min (count + 1) (2 ^ 64 - 1)

-- the count rose by one where the call failed, and else stands
pub record CountsFault (Failed : Type 0) (old new : ℕ) : Type 0 where
  pub failed : Failed → new ≡ risen old
  pub else_same : ¬ Failed → new ≡ old
