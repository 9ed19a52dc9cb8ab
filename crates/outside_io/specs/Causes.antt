-- Counts of failures and calls, and that a failure has a cause: the object's count of failures rose.
use Rattle.std.specs.Prelude.{ℕ, ◌+◌, ◌-◌, ◌^◌, ◌≤◌, min}

-- a u64 that counts one more, and stands still at its greatest value
abbrev pub next_count : ℕ → ℕ
next_count n = min (n + 1) (2 ^ 64 - 1)

-- the count rose, or stands at the greatest value of a u64
abbrev pub Rose : ℕ → ℕ → Type 0
Rose before now = min (before + 1) (2 ^ 64 - 1) ≤ now

-- a count of failures around a call: it never falls, and it rose if the call failed
pub record HasCause (before now : ℕ) (Failed : Type 0) : Type 0 where
  pub later : before ≤ now
  pub failed : Failed → Rose before now
