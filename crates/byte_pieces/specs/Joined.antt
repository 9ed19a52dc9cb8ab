-- A list of bytes in pieces.
use Rattle.std.specs.Prelude.{◌≡◌, ◌≤◌, ℕ, List, [], ◌∷◌, ◌++◌, length, Vec}
use Rattle.std.specs.List.{flat_map}
use Rattle.std.specs.declared.alloc.Global.{Global}

abbrev pub items_of : Vec ℕ Global → List ℕ
items_of v = v.items

abbrev pub joined : List (Vec ℕ Global) → List ℕ
joined pieces = flat_map items_of pieces

-- the bytes of whole pieces and of the last one
abbrev pub all_bytes : List (Vec ℕ Global) → List ℕ → List ℕ
all_bytes full last = joined full ++ last

-- each piece has 1 MiB
abbrev pub AllFull : List (Vec ℕ Global) → Type 0
AllFull [] = Unit {0}
AllFull (p ∷ ps) = (length p.items ≡ 1048576) × AllFull ps

-- each piece but the last one is full, and that one has no more
pub record InPieces (full : List (Vec ℕ Global)) (last : List ℕ) : Type 0 where
  pub whole : AllFull full
  pub no_more : length last ≤ 1048576
