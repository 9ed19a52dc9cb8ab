-- The laws of formats.
use Rattle.std.specs.Prelude.{◌≡◌, ◌<◌, ◌⊎◌, ℕ, List, [], get_or, Ok, Err}
use Rattle.frame_wire.specs.Reading.{Spot}
use Rattle.frame_wire.specs.Formats.{Format, Spelled}

abbrev pub IsBytes : List ℕ → Type 0
IsBytes bytes = (i : ℕ) → get_or bytes i 0 < 256

pub record Lawful {A : Type 0} {F : Type 0} (f : Format A F) : Type 0 where
  -- what is read stood there spelled
  pub takes : (s : Spot) (x : A) (t : Spot) → IsBytes s.rest → f.read s ≡ Ok (x, t) → Spelled f s x t
  -- what is spelled is read again, whatever follows it
  pub again : (s : Spot) (x : A) (t : Spot) → Spelled f s x t → f.read s ≡ Ok (x, t)
  -- reading fails only at the first wrong field, in the way that the fault names
  pub fails : (s : Spot) (fault : F) → IsBytes s.rest → f.read s ≡ Err fault → f.Wrong s fault
  -- where a field is wrong, reading fails so
  pub refuses : (s : Spot) (fault : F) → f.Wrong s fault → f.read s ≡ Err fault

-- the same of a format that ends a body
pub record LawfulLast {A : Type 0} {F : Type 0} (f : Format A F) : Type 0 where
  pub takes : (s : Spot) (x : A) (t : Spot) → IsBytes s.rest → f.read s ≡ Ok (x, t) → Spelled f s x t
  pub ends : (s : Spot) (x : A) (t : Spot) → Spelled f s x t → t.rest ≡ [] → f.read s ≡ Ok (x, t)
  pub fails : (s : Spot) (fault : F) → IsBytes s.rest → f.read s ≡ Err fault → f.Wrong s fault
  pub refuses : (s : Spot) (fault : F) → f.Wrong s fault → f.read s ≡ Err fault

-- Bytes have one outcome: a value that stands there spelled and never two, or one fault.
pub record OneOutcome {A : Type 0} {F : Type 0} (f : Format A F) : Type 0 where
  pub some : (s : Spot) → IsBytes s.rest → ((x : A) × (t : Spot) × Spelled f s x t) ⊎ ((fault : F) × f.Wrong s fault)
  pub value : (s : Spot) (x y : A) (t u : Spot) → Spelled f s x t → Spelled f s y u → (x ≡ y) × (t ≡ u)
  pub fault : (s : Spot) (a b : F) → f.Wrong s a → f.Wrong s b → a ≡ b
  pub apart : (s : Spot) (x : A) (t : Spot) (fault : F) → Spelled f s x t → f.Wrong s fault → ⊥
