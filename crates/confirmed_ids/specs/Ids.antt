-- Confirmed ids: all up to one, and ranges above it.
use Rattle.std.specs.Prelude.{ℕ, ◌+◌, ◌<◌, ◌≤◌, ◌⊎◌, List, [], ◌∷◌}
use Rattle.confirmed_ids.specs.declared.ranges.Range.{Range}

pub record Confirms : Type 0 where
  pub upto : ℕ
  pub above : List Range

-- the id is in one of the ranges
abbrev pub IsWithin : List Range → ℕ → Type 0
IsWithin [] id = ⊥
IsWithin (range ∷ ranges) id = ((range.first ≤ id) × (id ≤ range.last)) ⊎ IsWithin ranges id

abbrev pub IsConfirmedIn : Confirms → ℕ → Type 0
IsConfirmedIn ids id = (id ≤ ids.upto) ⊎ IsWithin ids.above id

-- The ranges rise, and before each of them, behind an id or a range, stands an id that is in none.
abbrev pub AreApart : ℕ → List Range → Type 0
AreApart before [] = Unit {0}
AreApart before (range ∷ ranges) = (before + 1 < range.first) × (range.first ≤ range.last) × AreApart range.last ranges
