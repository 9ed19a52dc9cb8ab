-- A field at the front of what is left, by places in all the bytes.
use Rattle.std.proofs.Common.{◌≡◌, ℕ, ◌+◌, ◌≤◌, List, ◌++◌, length, drop, Ok, Some, refl, sym, ap, subst, ◌∙◌, arith}
use Rattle.std.specs.Int.{Width, byte_len}
use Rattle.std.proofs.lemmas.Bool.{le-ltb}
use Rattle.std.proofs.lemmas.List.{drop-drop}
use Rattle.frame_wire.specs.Reading.{Spot, past, ReadsNumber, StandsFirst, number_of, number_at}
use Rattle.frame_wire.specs.Fields.{u32_bytes}
use Rattle.frame_wire.specs.Formats.{Spelled, count_field}
use Rattle.frame_wire.proofs.FieldLaws.{u32_length}

here : {X : Type 0} (spell : X → List ℕ) (size : ℕ) (x : X) (bytes : List ℕ) (at : ℕ) → StandsFirst spell size (drop at bytes) (Some x)
    → ReadsNumber spell size (Ok x) (record { at = at; rest = drop at bytes }) (record { at = at + size; rest = drop (at + size) bytes })
here spell size x bytes at stands =
    let after : drop size (drop at bytes) ≡ drop (at + size) bytes = drop-drop size at bytes in
    (stands.0 ∙ ap (λ (r : List ℕ). spell x ++ r) after, stands.1, ap (λ (r : List ℕ). record { at = at + size; rest = r }) (sym after))

-- the number that stood first was read, and the reader moved behind it
pub number_read : {X : Type 0} (spell : X → List ℕ) (size : ℕ) (x : X) (bytes : List ℕ) (at : ℕ) (old : Spot) (front : List ℕ)
    → record { at = at; rest = drop at bytes } ≡ old → front ≡ old.rest → StandsFirst spell size front (Some x)
    → ReadsNumber spell size (Ok x) old (record { at = at + size; rest = drop (at + size) bytes })
number_read spell size x bytes at old front is same stands =
    let front_is : front ≡ drop at bytes = same ∙ sym (ap (λ (s : Spot). s.rest) is) in
    let stands_here = subst (λ (r : List ℕ). StandsFirst spell size r (Some x)) front_is stands in
    subst (λ (o : Spot). ReadsNumber spell size (Ok x) o (record { at = at + size; rest = drop (at + size) bytes })) is (here spell size x bytes at stands_here)

-- where a reader then stands, by places in all the bytes
moved : (bytes : List ℕ) (at n : ℕ) (old : Spot) → record { at = at; rest = drop at bytes } ≡ old → past n old ≡ record { at = at + n; rest = drop (at + n) bytes }
moved bytes at n old is = ap (past n) (sym is) ∙ ap (λ (r : List ℕ). record { at = at + n; rest = r }) (drop-drop n at bytes)

-- the same as a function
pub number_found : (w : Width) (x : ℕ) (bytes : List ℕ) (at : ℕ) (old : Spot) (front : List ℕ) → record { at = at; rest = drop at bytes } ≡ old → front ≡ old.rest
    → byte_len w ≤ length front → x ≡ number_of w front → number_at w old ≡ Ok (x, record { at = at + byte_len w; rest = drop (at + byte_len w) bytes })
number_found w x bytes at old front is same long value =
    let long_rest : byte_len w ≤ length old.rest = rw same at long in
    let value_rest : number_of w old.rest ≡ x = ap (number_of w) (sym same) ∙ sym value in
    rw (le-ltb _ _ long_rest, value_rest, moved bytes at (byte_len w) old is) refl

-- a count, likewise
pub count_spelled : (x : ℕ) (bytes : List ℕ) (at : ℕ) (old : Spot) (front : List ℕ) → record { at = at; rest = drop at bytes } ≡ old → front ≡ old.rest → StandsFirst u32_bytes 4 front (Some x)
    → x ≤ 2147483647 → Spelled count_field old x (record { at = at + 4; rest = drop (at + 4) bytes })
count_spelled x bytes at old front is same stands small =
    let read = number_read u32_bytes 4 x bytes at old front is same stands in
    let place : at + 4 ≡ old.at + length (u32_bytes x) = ap (λ (s : Spot). s.at + 4) is ∙ ap (λ (k : ℕ). old.at + k) (sym (u32_length x)) in
    record { fits = omega arith; parts = read.0; moved = place }
