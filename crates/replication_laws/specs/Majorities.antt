-- More than half of the members.
use Rattle.std.specs.Prelude.{◌≡◌, ℕ, zero, suc, ◌+◌, ◌*◌, ◌/◌, ◌%◌, ◌<◌, Bool, false, ◌==◌, if◌then◌else◌, List, [], ◌∷◌, length, slice_index_or}

-- how many flags are set
abbrev pub votes : List Bool → ℕ
votes [] = 0
votes (b ∷ bs) = (if b then 1 else 0) + votes bs

-- a flag for each member, by number from 1 on, that is set for more than half of them
pub record IsMajority (members : ℕ) (voters : List Bool) : Type 0 where
  pub each : length voters ≡ members
  pub most : members < 2 * votes voters

-- the flag of a member, by its number
abbrev pub is_voter : List Bool → ℕ → Bool
is_voter voters zero = false
is_voter voters (suc i) = slice_index_or voters i false

-- so many bits of a number as flags, the lowest first
abbrev pub flags_of : ℕ → ℕ → List Bool
flags_of zero bits = []
flags_of (suc n) bits = (bits % 2 == 1) ∷ flags_of n (bits / 2)
