-- The moments that a clock is to answer, in order, of which it repeats the last.
use Rattle.std.specs.Prelude.{◌≡◌, ℕ, List, [], ◌∷◌, Option, Some, None}

-- the first of the moments, where they are told
abbrev pub IsFirst : Option (List ℕ) → ℕ → Type 0
IsFirst None moment = Unit {0}
IsFirst (Some []) moment = ⊥
IsFirst (Some (first ∷ later)) moment = moment ≡ first

-- the moments behind the first, or that one alone where none is behind it
abbrev pub later_moments : List ℕ → List ℕ
later_moments [] = []
later_moments (first ∷ []) = first ∷ []
later_moments (first ∷ next ∷ later) = next ∷ later
