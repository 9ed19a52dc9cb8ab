-- What a line leaves that a program writes.
use Rattle.std.specs.Prelude.{◌≡◌, ◌⊎◌, ℕ, List, take, Option}
use Rattle.outside_io.specs.Known.{after_known}
use Rattle.outside_io.specs.Causes.{Rose}

-- a line was written whole, or a write failed within it
abbrev pub Wrote : List ℕ → Option (List ℕ) → Option (List ℕ) → ℕ → ℕ → Type 0
Wrote line old new before now =
    (new ≡ after_known old line) ⊎ (Rose before now × (k : ℕ) × (new ≡ after_known old (take k line)))
