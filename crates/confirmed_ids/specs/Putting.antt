-- An id put into ranges.
use Rattle.std.specs.Prelude.{ℕ, ◌-◌, ◌==◌, ◌&&◌, ◌||◌, nat_le, nat_lt, if◌then◌else◌, Bool, List, [], ◌∷◌}
use Rattle.confirmed_ids.specs.declared.ranges.Range.{Range}

-- it isn't wholly below the id with a gap between them
abbrev pub reaches : ℕ → Range → Bool
reaches id range = nat_le id range.last || (id - range.last == 1)

abbrev pub range_of : ℕ → ℕ → Range
range_of first last = record { first = first; last = last }

abbrev pub single : ℕ → Range
single id = range_of id id

-- the range begins right behind the id
abbrev pub follows : ℕ → Range → Bool
follows id range = nat_lt id range.first && (range.first - id == 1)

abbrev pub put_joined : ℕ → ℕ → List Range → List Range
put_joined first id [] = range_of first id ∷ []
put_joined first id (next ∷ rest) = if follows id next then range_of first next.last ∷ rest else range_of first id ∷ next ∷ rest

abbrev pub put_here : ℕ → Range → List Range → List Range
put_here id here rest =
    if nat_lt id here.first then (if nat_lt 1 (here.first - id) then single id ∷ here ∷ rest else range_of id here.last ∷ rest)
    else if nat_le id here.last then here ∷ rest
    else put_joined here.first id rest

abbrev pub put_behind : ℕ → List Range → List Range
put_behind id [] = single id ∷ []
put_behind id (here ∷ rest) = put_here id here rest

abbrev pub with_id : ℕ → List Range → List Range
with_id id [] = single id ∷ []
with_id id (range ∷ ranges) = if reaches id range then put_here id range ranges else range ∷ with_id id ranges

-- the last id that is reached from one on, and the ranges that are left
abbrev pub joined_to : ℕ → List Range → ℕ
joined_to id [] = id
joined_to id (next ∷ rest) = if follows id next then next.last else id

abbrev pub behind_joined : ℕ → List Range → List Range
behind_joined id [] = []
behind_joined id (next ∷ rest) = if follows id next then rest else next ∷ rest
