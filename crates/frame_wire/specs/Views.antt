-- More joins of formats: so many raw bytes, a field that says what follows it, one of two formats by the first byte,
-- values that are only some of a format's, and several fields that are one.
use Rattle.std.specs.Prelude.{◌≡◌, ◌<◌, ◌⊎◌, ℕ, List, ◌++◌, length, take, get_or, Bool, true, false, Option, Some, None, Result, Ok, Err, nat_lt, if◌then◌else◌}
use Rattle.frame_wire.specs.Reading.{Spot, past}
use Rattle.frame_wire.specs.Formats.{Format, Spelled}
use Rattle.frame_wire.specs.Joins.{◌>>=◌, with_fault}

-- so many bytes; fewer are a fault of this kind at the first of them
abbrev pub raw : {F : Type 0} → (ℕ → F) → ℕ → Format (List ℕ) F
raw {F} short n = record {
  spell = λ bytes. bytes;
  Fits = λ bytes. length bytes ≡ n;
  read = λ s. if nat_lt (length s.rest) n then Err (short s.at) else Ok (take n s.rest, past n s);
  Wrong = λ s fault. (length s.rest < n) × (fault ≡ short s.at);
}

-- a format, and behind it one that its value chooses
abbrev pub behind : {A B F : Type 0} → Format A F → (A → Format B F) → Format (A × B) F
behind {A} f g = record {
  spell = λ p. f.spell p.0 ++ (g p.0).spell p.1;
  Fits = λ p. f.Fits p.0 × (g p.0).Fits p.1;
  read = λ s. f.read s >>= λ x. (g x.0).read x.1 >>= λ y. Ok ((x.0, y.0), y.1);
  Wrong = λ s fault. f.Wrong s fault ⊎ ((x : A) × (t : Spot) × Spelled f s x t × (g x).Wrong t fault);
}

-- whether the first byte is below 128, so that its highest bit is 0; no byte counts as 0
abbrev pub begins_low : List ℕ → Bool
begins_low bytes = nat_lt (get_or bytes 0 0) 128

-- a value of one kind or of another
pub data OneOf (A B : Type 0) : Type 0 where
  Low : A → OneOf A B
  High : B → OneOf A B

abbrev pub low_or_high_bytes : {A B : Type 0} → (A → List ℕ) → (B → List ℕ) → OneOf A B → List ℕ
low_or_high_bytes low high (Low x) = low x
low_or_high_bytes low high (High y) = high y

abbrev pub LowOrHigh : {A B F : Type 0} → Format A F → Format B F → OneOf A B → Type 0
LowOrHigh f g (Low x) = f.Fits x × (begins_low (f.spell x) ≡ true)
LowOrHigh f g (High y) = g.Fits y × (begins_low (g.spell y) ≡ false)

-- one format where the first byte is below 128, and another where it is not
abbrev pub low_or_high : {A B F : Type 0} → Format A F → Format B F → Format (OneOf A B) F
low_or_high {A} {B} f g = record {
  spell = low_or_high_bytes f.spell g.spell;
  Fits = LowOrHigh f g;
  read = λ s. if begins_low s.rest then (f.read s >>= λ x. Ok (Low x.0, x.1)) else (g.read s >>= λ y. Ok (High y.0, y.1));
  Wrong = λ s fault. ((begins_low s.rest ≡ true) × f.Wrong s fault) ⊎ ((begins_low s.rest ≡ false) × g.Wrong s fault);
}

abbrev pub some_or : {B F : Type 0} → F → Spot → Option B → Result (B × Spot) F
some_or fault t None = Err fault
some_or fault t (Some y) = Ok (y, t)

-- The same bytes for values that are made of only some of a format's: others are a fault of this kind at the first byte.
abbrev pub viewed : {A B F : Type 0} → (A → Option B) → (B → A) → (B → Type 0) → (ℕ → F) → Format A F → Format B F
viewed {A} make parts Right bad f = record {
  spell = λ y. f.spell (parts y);
  Fits = Right;
  read = λ s. f.read s >>= λ x. some_or (bad s.at) x.1 (make x.0);
  Wrong = λ s fault. f.Wrong s fault ⊎ ((x : A) × (t : Spot) × Spelled f s x t × (make x ≡ None) × (fault ≡ bad s.at));
}

-- Several fields that are one: each fault is of this kind at the first byte.
abbrev pub as_one : {A E F : Type 0} → (ℕ → F) → Format A E → Format A F
as_one {A} {E} bad f = record {
  spell = f.spell;
  Fits = f.Fits;
  read = λ s. with_fault (λ fault. bad s.at) (f.read s);
  Wrong = λ s fault. ((e : E) × f.Wrong s e) × (fault ≡ bad s.at);
}
