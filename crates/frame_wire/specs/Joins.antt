-- How formats are joined: one after another, a list behind its count, a last field that may be absent, a last field to the end.
use Rattle.std.specs.Prelude.{◌≡◌, ◌<◌, ◌⊎◌, ℕ, zero, suc, ◌+◌, List, [], ◌∷◌, ◌++◌, length, Option, Some, None, IfSome, Result, Ok, Err, ◌==◌, if◌then◌else◌}
use Rattle.std.specs.List.{flat_map, AllByRecursion}
use Rattle.frame_wire.specs.declared.fault.FieldFault.{FieldFault}
use Rattle.frame_wire.specs.Fields.{count_bytes, IsCount}
use Rattle.frame_wire.specs.Reading.{Spot, past}
use Rattle.frame_wire.specs.Formats.{Format, Spelled, count_field}

-- a reading step, and the next one where it did not fail
infixl 10 ◌>>=◌
abbrev pub ◌>>=◌ : {A B F : Type 0} → Result A F → (A → Result B F) → Result B F
(Ok x) >>= f = f x
(Err fault) >>= f = Err fault

-- a fault of one kind as one of another
abbrev pub with_fault : {A E F : Type 0} → (E → F) → Result A E → Result A F
with_fault of (Ok x) = Ok x
with_fault of (Err fault) = Err (of fault)

-- the same format, with its faults told in another kind
abbrev pub within : {A E F : Type 0} → (E → F) → Format A E → Format A F
within {A} {E} of f = record {
  spell = f.spell;
  Fits = f.Fits;
  read = λ s. with_fault of (f.read s);
  Wrong = λ s fault. (e : E) × f.Wrong s e × (fault ≡ of e);
}

-- the same format of values that are made of others and give them back
abbrev pub mapped : {A B F : Type 0} → (A → B) → (B → A) → Format A F → Format B F
mapped make parts f = record {
  spell = λ y. f.spell (parts y);
  Fits = λ y. f.Fits (parts y);
  read = λ s. f.read s >>= λ x. Ok (make x.0, x.1);
  Wrong = f.Wrong;
}

-- One format after another. The first is wrong, or it is spelled and the second is wrong behind it.
infixr 20 ◌then◌
abbrev pub ◌then◌ : {A B F : Type 0} → Format A F → Format B F → Format (A × B) F
◌then◌ {A} f g = record {
  spell = λ p. f.spell p.0 ++ g.spell p.1;
  Fits = λ p. f.Fits p.0 × g.Fits p.1;
  read = λ s. f.read s >>= λ x. g.read x.1 >>= λ y. Ok ((x.0, y.0), y.1);
  Wrong = λ s fault. f.Wrong s fault ⊎ ((x : A) × (t : Spot) × Spelled f s x t × g.Wrong t fault);
}

-- so many items
unfoldable pub items_at : {A F : Type 0} → (Spot → Result (A × Spot) F) → ℕ → Spot → Result (List A × Spot) F
items_at read zero s = Ok ([], s)
items_at read (suc n) s = read s >>= λ x. items_at read n x.1 >>= λ xs. Ok (x.0 ∷ xs.0, xs.1)

-- fewer than n items are spelled, and the next is wrong
pub record WrongItem {A : Type 0} {F : Type 0} (f : Format A F) (n : ℕ) (s : Spot) (fault : F) : Type 0 where
  pub front : List A
  pub behind : Spot
  pub fewer : length front < n
  pub fits : AllByRecursion f.Fits front
  pub parts : s.rest ≡ flat_map f.spell front ++ behind.rest
  pub moved : behind.at ≡ s.at + length (flat_map f.spell front)
  pub item : f.Wrong behind fault

abbrev pub list_bytes : {A : Type 0} → (A → List ℕ) → List A → List ℕ
list_bytes spell xs = count_bytes (length xs) ++ flat_map spell xs

abbrev pub IsList : {A : Type 0} → (A → Type 0) → List A → Type 0
IsList Fits xs = IsCount (length xs) × AllByRecursion Fits xs

abbrev pub list_at : {A F : Type 0} → (FieldFault → F) → (Spot → Result (A × Spot) F) → Spot → Result (List A × Spot) F
list_at of read s = with_fault of (count_field.read s) >>= λ n. items_at read n.0 n.1

-- A list: its count, and the items. The count is wrong, or an item behind it.
abbrev pub list : {A F : Type 0} → (FieldFault → F) → Format A F → Format (List A) F
list of f = record {
  spell = list_bytes f.spell;
  Fits = IsList f.Fits;
  read = list_at of f.read;
  Wrong = λ s fault. (within of count_field).Wrong s fault ⊎ ((n : ℕ) × (t : Spot) × Spelled count_field s n t × WrongItem f n t fault);
}

abbrev pub absent_bytes : {A : Type 0} → (A → List ℕ) → Option A → List ℕ
absent_bytes spell None = []
absent_bytes spell (Some x) = spell x

abbrev pub absent_at : {A F : Type 0} → (Spot → Result (A × Spot) F) → Spot → Result (Option A × Spot) F
absent_at read s = if length s.rest == 0 then Ok (None, s) else read s >>= λ x. Ok (Some x.0, x.1)

-- a last field that may be absent as a whole
abbrev pub or_absent : {A F : Type 0} → Format A F → Format (Option A) F
or_absent f = record {
  spell = absent_bytes f.spell;
  Fits = λ o. IfSome o f.Fits;
  read = absent_at f.read;
  Wrong = λ s fault. (0 < length s.rest) × f.Wrong s fault;
}

-- a last field of raw bytes, to the end
abbrev pub to_end : {F : Type 0} → Format (List ℕ) F
to_end = record {
  spell = λ bytes. bytes;
  Fits = λ bytes. Unit {0};
  read = λ s. Ok (s.rest, past (length s.rest) s);
  Wrong = λ s fault. ⊥;
}

-- the end of a body, where nothing is left; bytes behind it are a fault of this kind at the first of them
abbrev pub end_of : {F : Type 0} → (ℕ → F) → Format (Unit {0}) F
end_of {F} long = record {
  spell = λ u. [];
  Fits = λ u. Unit {0};
  read = λ s. if length s.rest == 0 then Ok (tt, s) else Err (long s.at);
  Wrong = λ s fault. (0 < length s.rest) × (fault ≡ long s.at);
}
