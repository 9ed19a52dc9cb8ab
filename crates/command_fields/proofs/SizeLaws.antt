-- The lengths of spellings.
use Rattle.std.proofs.Common.{◌≡◌, ℕ, ℤ, zero, suc, refl, ◌+◌, ◌<◌, ◌≤◌, List, [], ◌∷◌, ◌++◌, length, take, get_or, Bool, Option, Some, None, sym, ap, subst, arith}
use Rattle.std.specs.List.{flat_map, AllByRecursion}
use Rattle.std.proofs.lemmas.List.{length-append, take_all}
use Rattle.std.proofs.lemmas.List.Folds.{length-flat_map-take}
use Rattle.frame_wire.specs.Fields.{u16_bytes, i64_bytes, text_bytes, IsText, count_bytes}
use Rattle.frame_wire.specs.Formats.{Format, text_field}
use Rattle.frame_wire.specs.Joins.{◌then◌, list, list_bytes}
use Rattle.frame_wire.specs.declared.fault.FieldFault.{FieldFault}
use Rattle.frame_wire.specs.Items.{same_fault}
use Rattle.frame_wire.proofs.FieldLaws.{u8_length, u16_length, u32_length, u64_length}
use Rattle.std.specs.Prelude.{IsTrue, is_some, ◌↔◌}
use Rattle.command_fields.specs.Tables.{Table, body_of, FitsIn}
use Rattle.command_fields.specs.Sizes.{Measures, MeasuresText, MeasuresIn}

pub is_text : (text : Option (List ℕ)) (bytes : List ℕ) → Some bytes ≡ text → IsText text → MeasuresText text (2 + length bytes)
is_text (Some all) bytes is fits =
    let same : bytes ≡ all = cc in
    let len : length bytes ≡ length all = ap length same in
    (fits, omega (arith, len, length-append (u16_bytes (length all)) all, u16_length (length all)), omega (arith, len, fits))
is_text None bytes is fits = absurd cc

pub is_null : (text : Option (List ℕ)) → None ≡ text → MeasuresText text 2
is_null None is = (tt, sym (u16_length 65535), omega arith)
is_null (Some all) is = absurd cc

pub text_short : (text : Option (List ℕ)) → IsText text → length (text_bytes text) ≤ 32769
text_short (Some all) fits = omega (arith, fits, length-append (u16_bytes (length all)) all, u16_length (length all))
text_short None fits = omega (arith, u16_length 65535)

pub two_texts : (a b : Option (List ℕ)) (m n : ℕ) → Measures text_field a (Some m) → Measures text_field b (Some n) → Measures (text_field then text_field) (a, b) (Some (m + n))
two_texts a b m n one two =
    ((one.0, two.0), omega (arith, one.1, two.1, length-append (text_bytes a) (text_bytes b)), omega (arith, one.1, two.1, text_short a one.0, text_short b two.0))

all_at : {A : Type 0} (P : A → Type 0) (xs : List A) (i : ℕ) (d : A) → AllByRecursion P xs → i < length xs → P (get_or xs i d)
all_at P (x ∷ xs) zero d all lt = all.0
all_at P (x ∷ xs) (suc i) d all lt = all_at P xs i d all.1 (omega arith)
all_at P [] i d all lt = absurd (omega arith)

-- what is known of the items before one
abbrev Counted : {A : Type 0} → Format A FieldFault → List A → ℕ → ℕ → Type 0
Counted f xs i total = AllByRecursion f.Fits (take i xs) × (total ≡ 4 + length (flat_map f.spell (take i xs))) × (total ≤ 4294967295)

count_length : (n : ℕ) → length (count_bytes n) ≡ 4
count_length n = u32_length n

pub list_length : {A : Type 0} (f : Format A FieldFault) (xs : List A) → length (list_bytes f.spell xs) ≡ 4 + length (flat_map f.spell xs)
list_length f xs = omega (arith, length-append (count_bytes (length xs)) (flat_map f.spell xs), count_length (length xs))

-- an item that is none of a list, or too long for one
pub no_item : {A : Type 0} (f : Format A FieldFault) (xs : List A) (i total : ℕ) (x : A) → x ≡ get_or xs i x → i < length xs → Measures f x None → Measures (list same_fault f) xs None
no_item f xs i total x is lt none fits short =
    let one : f.Fits x = subst f.Fits (sym is) (all_at f.Fits xs i x fits.1 lt) in
    let more = length-flat_map-take f.spell xs i x lt in
    let same : length (f.spell x) ≡ length (f.spell (get_or xs i x)) = ap (λ z. length (f.spell z)) is in
    none one (omega (arith, list_length f xs, more, same, short))

-- the items up to one are too long for a list
pub too_long : {A : Type 0} (f : Format A FieldFault) (xs : List A) (i total size : ℕ) (x : A) → x ≡ get_or xs i x → i < length xs → Counted f xs i total → Measures f x (Some size) → 4294967295 < total + size → Measures (list same_fault f) xs None
too_long f xs i total size x is lt counted one long fits short =
    let more = length-flat_map-take f.spell xs i x lt in
    let same : length (f.spell x) ≡ length (f.spell (get_or xs i x)) = ap (λ z. length (f.spell z)) is in
    omega (arith, list_length f xs, more, same, short, counted.1, one.1, long)

pub all_items : {A : Type 0} (f : Format A FieldFault) (xs : List A) (i total : ℕ) → length xs ≤ 2147483647 → length xs ≤ i → Counted f xs i total → Measures (list same_fault f) xs (Some total)
all_items {A} f xs i total few done counted =
    let whole : take i xs ≡ xs = take_all i xs done in
    let c = subst (λ (ys : List A). AllByRecursion f.Fits ys × (total ≡ 4 + length (flat_map f.spell ys)) × (total ≤ 4294967295)) whole counted in
    ((omega arith, c.0), omega (arith, c.1, list_length f xs), c.2)

pub body_length : {C K : Type 0} (table : Table C K) (c : C) → length (body_of table c) ≡ 4 + length ((table.layout_of (table.key c)).format.spell (table.fields c))
body_length table c =
    let l = table.layout_of (table.key c) in
    omega (arith, length-append (u16_bytes l.code) (u16_bytes l.version ++ l.format.spell (table.fields c)), length-append (u16_bytes l.version) (l.format.spell (table.fields c)), u16_length l.code, u16_length l.version)

-- ---- a command's body, by the lengths of its fields

pub body_measured : {C K : Type 0} (table : Table C K) (c : C) (n : ℕ) → (table.layout_of (table.key c)).Known → Measures (table.layout_of (table.key c)).format (table.fields c) (Some n) → n ≤ 4294967291 → MeasuresIn table c (Some (4 + n))
body_measured table c n known measured short =
    let len = body_length table c in
    (((known, measured.0), omega (arith, len, measured.1)), omega (arith, len, measured.1))

pub body_long : {C K : Type 0} (table : Table C K) (c : C) (n : ℕ) → Measures (table.layout_of (table.key c)).format (table.fields c) (Some n) → 4294967291 < n → MeasuresIn table c None
body_long table c n measured long fits = omega (arith, body_length table c, measured.1, fits.1)

pub body_none : {C K : Type 0} (table : Table C K) (c : C) → Measures (table.layout_of (table.key c)).format (table.fields c) None → MeasuresIn table c None
body_none table c none fits = none fits.0.1 (omega (arith, body_length table c, fits.1))

pub body_unknown : {C K : Type 0} (table : Table C K) (c : C) → ((table.layout_of (table.key c)).Known → ⊥) → MeasuresIn table c None
body_unknown table c unknown fits = unknown fits.0.0

-- a command fits exactly where its body has a length
pub fits_measured : {C K : Type 0} (table : Table C K) (c : C) (size : Option ℕ) → MeasuresIn table c size → IsTrue (is_some size) ↔ FitsIn table c
fits_measured table c (Some n) measured = (λ is. measured.0, λ fits. refl)
fits_measured table c None measured = (λ is. absurd cc, λ fits. absurd (measured fits))

pub i64_length : (n : ℤ) → length (i64_bytes n) ≡ 8
unfolding i64_bytes
i64_length n = refl

pub ruleset lengths = (length-append, u8_length, u16_length, u32_length, u64_length, i64_length)
