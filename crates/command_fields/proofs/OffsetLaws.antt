-- The format of an offset specification is lawful, and that of a property.
use Rattle.std.proofs.Common.{◌≡◌, ℕ, ◌+◌, ◌^◌, ◌<◌, ◌⊎◌, List, ◌++◌, length, Result, Ok, Err, zero, suc, refl, sym, ap, subst, ◌∙◌, append_assoc, arith, inl, inr}
use Rattle.std.proofs.lemmas.Bool.{ne_eqb}
use Rattle.std.proofs.lemmas.List.{length-append}
use Rattle.frame_wire.specs.declared.fault.FieldFault.{FieldFault}
use Rattle.frame_wire.specs.declared.fault.FieldFault.TheVariants as fields
use Rattle.frame_wire.specs.Fields.{u16_bytes, u64_bytes, i64_bytes}
use Rattle.frame_wire.specs.Reading.{Spot}
use Rattle.frame_wire.specs.Formats.{Format, Spelled, NumberWrong, u16_field, u64_field, i64_field, text_field}
use Rattle.frame_wire.specs.Joins.{with_fault, within, ◌then◌}
use Rattle.frame_wire.specs.Laws.{IsBytes, Lawful}
use Rattle.frame_wire.proofs.FieldLaws.{u16_length}
use Rattle.frame_wire.proofs.FieldFormats.{u16_lawful, u64_lawful, i64_lawful, text_lawful}
use Rattle.frame_wire.proofs.JoinLaws.{bind_ok, bind_err, after_ok, after_err, within_lawful, mapped_lawful, then_lawful}
use Rattle.frame_wire.proofs.Steps.{rest_bytes, ok_is, err_is, no_both}
use Rattle.command_fields.specs.declared.fault.DecodeFault.{DecodeFault}
use Rattle.command_fields.specs.declared.fault.DecodeFault.TheVariants as faults
use Rattle.command_fields.specs.declared.offset.OffsetSpec.{OffsetSpec}
use Rattle.command_fields.specs.declared.offset.OffsetSpec.TheVariants.{Unset, First, Last, Next, At, Since}
use Rattle.command_fields.specs.Faults.{of_field, of_part}
use Rattle.command_fields.specs.Offsets.{spec_bytes, IsSpec, offset_at, time_at, behind_type, spec_at, WrongBehind, SpecWrong, spec_field}
use Rattle.command_fields.specs.Properties.{property_of, texts_of, property_field}

abbrev Read : Type 0
Read = Result (OffsetSpec × Spot) DecodeFault

-- a field's format with the faults of commands
own : {A : Type 0} (f : Format A FieldFault) → Lawful f → Lawful (within of_field f)
own f p = within_lawful of_field f p

part : {A : Type 0} (place : ℕ) (f : Format A FieldFault) → Lawful f → Lawful (within (of_part place) f)
part place f p = within_lawful (of_part place) f p

type_takes : (s : Spot) (kind : ℕ) (t : Spot) → IsBytes s.rest → with_fault of_field (u16_field.read s) ≡ Ok (kind, t) → Spelled u16_field s kind t
type_takes s kind t fits e =
    let stands = (own u16_field u16_lawful).takes s kind t fits e in
    record { fits = stands.fits; parts = stands.parts; moved = stands.moved }

-- ---- what stands behind a type

-- a type is one of 0 to 5, or above
pub record Kinds (P : ℕ → Type 0) : Type 0 where
  pub none : P 0
  pub first : P 1
  pub last : P 2
  pub next : P 3
  pub offset : P 4
  pub time : P 5
  pub above : (kind : ℕ) → 5 < kind → P kind

each_kind : (P : ℕ → Type 0) → Kinds P → (kind : ℕ) → P kind
each_kind P k zero = k.none
each_kind P k (suc zero) = k.first
each_kind P k (suc (suc zero)) = k.last
each_kind P k (suc (suc (suc zero))) = k.next
each_kind P k (suc (suc (suc (suc zero)))) = k.offset
each_kind P k (suc (suc (suc (suc (suc zero))))) = k.time
each_kind P k (suc (suc (suc (suc (suc (suc n)))))) = k.above (suc (suc (suc (suc (suc (suc n)))))) (omega arith)

above_type : (place kind : ℕ) (s : Spot) → 5 < kind → behind_type place kind s ≡ Err (faults.OffsetType place)
above_type place kind s large =
    rw (ne_eqb kind 0 (λ e. omega arith), ne_eqb kind 1 (λ e. omega arith), ne_eqb kind 2 (λ e. omega arith), ne_eqb kind 3 (λ e. omega arith), ne_eqb kind 4 (λ e. omega arith), ne_eqb kind 5 (λ e. omega arith)) refl

-- a type and what stands behind it spell the value
record Behind (kind : ℕ) (s : Spot) (x : OffsetSpec) (t : Spot) : Type 0 where
  fits : IsSpec x
  parts : u16_bytes kind ++ s.rest ≡ spec_bytes x ++ t.rest
  moved : 2 + t.at ≡ s.at + length (spec_bytes x)

behind_is : (kind : ℕ) (s : Spot) (x y : OffsetSpec) (t u : Spot) → ◌≡◌ {A = Read} (Ok (x, t)) (Ok (y, u)) → Behind kind s x t → Behind kind s y u
behind_is kind s x y t u e there =
    let made : OffsetSpec × Spot = (x, t) in
    subst (λ (z : OffsetSpec × Spot). Behind kind s z.0 z.1) (ok_is {F = DecodeFault} made (y, u) e) there

offset_takes : (place : ℕ) (s : Spot) (x : OffsetSpec) (t : Spot) → IsBytes s.rest → offset_at place s ≡ Ok (x, t) → Behind 4 s x t
offset_takes place s x t fits e =
    let a = bind_ok (with_fault (of_part place) (u64_field.read s)) (λ offset. Ok (At offset.0, offset.1)) (x, t) e in
    let n = a.0.0 in
    let m : Spot = a.0.1 in
    let got = (part place u64_field u64_lawful).takes s n m fits a.1 in
    let whole : u16_bytes 4 ++ s.rest ≡ (u16_bytes 4 ++ u64_bytes n) ++ m.rest = ap (λ (r : List ℕ). u16_bytes 4 ++ r) got.parts ∙ sym (append_assoc (u16_bytes 4) (u64_bytes n) m.rest) in
    behind_is 4 s (At n) x m t a.2 (record { fits = got.fits; parts = whole; moved = omega (arith, got.moved, length-append (u16_bytes 4) (u64_bytes n), u16_length 4) })

time_takes : (place : ℕ) (s : Spot) (x : OffsetSpec) (t : Spot) → IsBytes s.rest → time_at place s ≡ Ok (x, t) → Behind 5 s x t
time_takes place s x t fits e =
    let a = bind_ok (with_fault (of_part place) (i64_field.read s)) (λ time. Ok (Since time.0, time.1)) (x, t) e in
    let n = a.0.0 in
    let m : Spot = a.0.1 in
    let got = (part place i64_field i64_lawful).takes s n m fits a.1 in
    let whole : u16_bytes 5 ++ s.rest ≡ (u16_bytes 5 ++ i64_bytes n) ++ m.rest = ap (λ (r : List ℕ). u16_bytes 5 ++ r) got.parts ∙ sym (append_assoc (u16_bytes 5) (i64_bytes n) m.rest) in
    behind_is 5 s (Since n) x m t a.2 (record { fits = got.fits; parts = whole; moved = omega (arith, got.moved, length-append (u16_bytes 5) (i64_bytes n), u16_length 5) })

alone : (kind : ℕ) (s : Spot) (x : OffsetSpec) → IsSpec x → spec_bytes x ≡ u16_bytes kind → Behind kind s x s
alone kind s x fits is =
    let len : length (spec_bytes x) ≡ 2 = ap length is ∙ u16_length kind in
    record { fits = fits; parts = ap (λ (r : List ℕ). r ++ s.rest) (sym is); moved = omega arith }

behind_takes : (place kind : ℕ) (s : Spot) (x : OffsetSpec) (t : Spot) → IsBytes s.rest → behind_type place kind s ≡ Ok (x, t) → Behind kind s x t
behind_takes place =
    each_kind (λ kind. (s : Spot) (x : OffsetSpec) (t : Spot) → IsBytes s.rest → behind_type place kind s ≡ Ok (x, t) → Behind kind s x t) (record {
      none = λ s x t fits e. behind_is 0 s Unset x s t e (alone 0 s Unset tt refl);
      first = λ s x t fits e. behind_is 1 s First x s t e (alone 1 s First tt refl);
      last = λ s x t fits e. behind_is 2 s Last x s t e (alone 2 s Last tt refl);
      next = λ s x t fits e. behind_is 3 s Next x s t e (alone 3 s Next tt refl);
      offset = offset_takes place;
      time = time_takes place;
      above = λ kind large s x t fits e. absurd (no_both (x, t) (faults.OffsetType place) (sym e ∙ above_type place kind s large));
    })

number_wrong : (place kind : ℕ) (s : Spot) (e : FieldFault) (fault : DecodeFault) → (kind ≡ 4) ⊎ (kind ≡ 5) → NumberWrong 8 s e → fault ≡ of_part place e → WrongBehind place kind s fault
number_wrong place kind s (fields.Short at) fault with_value wrong is = subst (WrongBehind place kind s) (sym is) (with_value, wrong.0, refl)
number_wrong place kind s (fields.Negative at) fault with_value wrong is = absurd wrong

offset_fails : (place : ℕ) (s : Spot) (fault : DecodeFault) → IsBytes s.rest → offset_at place s ≡ Err fault → WrongBehind place 4 s fault
offset_fails place s fault fits e =
    elim (bind_err (with_fault (of_part place) (u64_field.read s)) (λ offset. Ok (At offset.0, offset.1)) fault e) [
      | inl a ↦
          let h = (part place u64_field u64_lawful).fails s fault fits a in
          number_wrong place 4 s h.0 fault (inl refl) h.1 h.2
      | inr a ↦ absurd (no_both _ _ a.2)
    ]

time_fails : (place : ℕ) (s : Spot) (fault : DecodeFault) → IsBytes s.rest → time_at place s ≡ Err fault → WrongBehind place 5 s fault
time_fails place s fault fits e =
    elim (bind_err (with_fault (of_part place) (i64_field.read s)) (λ time. Ok (Since time.0, time.1)) fault e) [
      | inl a ↦
          let h = (part place i64_field i64_lawful).fails s fault fits a in
          number_wrong place 5 s h.0 fault (inr refl) h.1 h.2
      | inr a ↦ absurd (no_both _ _ a.2)
    ]

behind_fails : (place kind : ℕ) (s : Spot) (fault : DecodeFault) → IsBytes s.rest → behind_type place kind s ≡ Err fault → WrongBehind place kind s fault
behind_fails place =
    each_kind (λ kind. (s : Spot) (fault : DecodeFault) → IsBytes s.rest → behind_type place kind s ≡ Err fault → WrongBehind place kind s fault) (record {
      none = λ s fault fits e. absurd (no_both _ _ e);
      first = λ s fault fits e. absurd (no_both _ _ e);
      last = λ s fault fits e. absurd (no_both _ _ e);
      next = λ s fault fits e. absurd (no_both _ _ e);
      offset = offset_fails place;
      time = time_fails place;
      above = λ kind large s fault fits e.
          let is = err_is {A = OffsetSpec × Spot} (faults.OffsetType place) fault (sym (above_type place kind s large) ∙ e) in
          subst (WrongBehind place kind s) is (large, refl);
    })

behind_refuses : (place kind : ℕ) (s : Spot) (fault : DecodeFault) → WrongBehind place kind s fault → behind_type place kind s ≡ Err fault
behind_refuses place kind s (faults.OffsetType at) h = above_type place kind s h.0 ∙ ap (λ (p : ℕ). Err (faults.OffsetType p)) (sym h.1)
behind_refuses place kind s (faults.Short at) h =
    elim h.0 [
      | inl is ↦
          let short = ap (with_fault (of_part place)) (u64_lawful.refuses s (fields.Short s.at) (h.1, refl)) in
          let fails : offset_at place s ≡ Err (faults.Short place) = after_err (with_fault (of_part place) (u64_field.read s)) (λ offset. Ok (At offset.0, offset.1)) (faults.Short place) short in
          subst (λ (k : ℕ). behind_type place k s ≡ Err (faults.Short place)) (sym is) fails ∙ ap (λ (p : ℕ). Err (faults.Short p)) (sym h.2)
      | inr is ↦
          let short = ap (with_fault (of_part place)) (i64_lawful.refuses s (fields.Short s.at) (h.1, refl)) in
          let fails : time_at place s ≡ Err (faults.Short place) = after_err (with_fault (of_part place) (i64_field.read s)) (λ time. Ok (Since time.0, time.1)) (faults.Short place) short in
          subst (λ (k : ℕ). behind_type place k s ≡ Err (faults.Short place)) (sym is) fails ∙ ap (λ (p : ℕ). Err (faults.Short p)) (sym h.2)
    ]
behind_refuses place kind s (faults.UnknownKey at) h = absurd h
behind_refuses place kind s (faults.Version at) h = absurd h
behind_refuses place kind s (faults.Long at) h = absurd h
behind_refuses place kind s (faults.Negative at) h = absurd h
behind_refuses place kind s (faults.Flag at) h = absurd h

-- ---- the specification

spec_takes : (s : Spot) (x : OffsetSpec) (t : Spot) → IsBytes s.rest → spec_at s ≡ Ok (x, t) → Spelled spec_field s x t
spec_takes s x t fits e =
    let a = bind_ok (with_fault of_field (u16_field.read s)) (λ kind. behind_type s.at kind.0 kind.1) (x, t) e in
    let kind = a.0.0 in
    let m : Spot = a.0.1 in
    let first = type_takes s kind m fits a.1 in
    let behind = behind_takes s.at kind m x t (rest_bytes u16_field s kind m fits first) a.2 in
    record { fits = behind.fits; parts = first.parts ∙ behind.parts; moved = omega (arith, first.moved, behind.moved, u16_length kind) }

-- where the value begins, behind a type
abbrev value_spot : Spot → ℕ → List ℕ → Spot
value_spot s kind more = record { at = s.at + length (u16_bytes kind); rest = more }

after_type : (s : Spot) (kind : ℕ) (more : List ℕ) → kind < 2 ^ 16 → s.rest ≡ u16_bytes kind ++ more → spec_at s ≡ behind_type s.at kind (value_spot s kind more)
after_type s kind more fits parts =
    let m = value_spot s kind more in
    let read = ap (with_fault of_field) (u16_lawful.again s kind m (record { fits = fits; parts = parts; moved = refl })) in
    after_ok (with_fault of_field (u16_field.read s)) (λ kind. behind_type s.at kind.0 kind.1) (kind, m) read

spot_is : (x : OffsetSpec) (k : ℕ) (t : Spot) → t.at ≡ k → ◌≡◌ {A = Read} (Ok (x, record { at = k; rest = t.rest })) (Ok (x, t))
spot_is x k t moved = ap (λ (n : ℕ). Ok (x, record { at = n; rest = t.rest })) (sym moved)

spec_again : (s : Spot) (x : OffsetSpec) (t : Spot) → Spelled spec_field s x t → spec_at s ≡ Ok (x, t)
spec_again s Unset t all = after_type s 0 t.rest (omega arith) all.parts ∙ spot_is Unset (s.at + length (u16_bytes 0)) t all.moved
spec_again s First t all = after_type s 1 t.rest (omega arith) all.parts ∙ spot_is First (s.at + length (u16_bytes 1)) t all.moved
spec_again s Last t all = after_type s 2 t.rest (omega arith) all.parts ∙ spot_is Last (s.at + length (u16_bytes 2)) t all.moved
spec_again s Next t all = after_type s 3 t.rest (omega arith) all.parts ∙ spot_is Next (s.at + length (u16_bytes 3)) t all.moved
spec_again s (At n) t all =
    let m = value_spot s 4 (u64_bytes n ++ t.rest) in
    let there : Spelled u64_field m n t = record { fits = all.fits; parts = refl; moved = omega (arith, all.moved, length-append (u16_bytes 4) (u64_bytes n)) } in
    let read = ap (with_fault (of_part s.at)) (u64_lawful.again m n t there) in
    after_type s 4 (u64_bytes n ++ t.rest) (omega arith) (all.parts ∙ append_assoc (u16_bytes 4) (u64_bytes n) t.rest)
    ∙ after_ok (with_fault (of_part s.at) (u64_field.read m)) (λ offset. Ok (At offset.0, offset.1)) (n, t) read
spec_again s (Since n) t all =
    let m = value_spot s 5 (i64_bytes n ++ t.rest) in
    let there : Spelled i64_field m n t = record { fits = all.fits; parts = refl; moved = omega (arith, all.moved, length-append (u16_bytes 5) (i64_bytes n)) } in
    let read = ap (with_fault (of_part s.at)) (i64_lawful.again m n t there) in
    after_type s 5 (i64_bytes n ++ t.rest) (omega arith) (all.parts ∙ append_assoc (u16_bytes 5) (i64_bytes n) t.rest)
    ∙ after_ok (with_fault (of_part s.at) (i64_field.read m)) (λ time. Ok (Since time.0, time.1)) (n, t) read

spec_fails : (s : Spot) (fault : DecodeFault) → IsBytes s.rest → spec_at s ≡ Err fault → SpecWrong s fault
spec_fails s fault fits e =
    elim (bind_err (with_fault of_field (u16_field.read s)) (λ kind. behind_type s.at kind.0 kind.1) fault e) [
      | inl a ↦ inl ((own u16_field u16_lawful).fails s fault fits a)
      | inr a ↦
          let first = type_takes s a.0.0 a.0.1 fits a.1 in
          inr (a.0.0, a.0.1, first, behind_fails s.at a.0.0 a.0.1 fault (rest_bytes u16_field s a.0.0 a.0.1 fits first) a.2)
    ]

spec_refuses : (s : Spot) (fault : DecodeFault) → SpecWrong s fault → spec_at s ≡ Err fault
spec_refuses s fault (inl a) = after_err (with_fault of_field (u16_field.read s)) (λ kind. behind_type s.at kind.0 kind.1) fault ((own u16_field u16_lawful).refuses s fault a)
spec_refuses s fault (inr b) =
    let read = ap (with_fault of_field) (u16_lawful.again s b.0 b.1 b.2) in
    after_ok (with_fault of_field (u16_field.read s)) (λ kind. behind_type s.at kind.0 kind.1) (b.0, b.1) read ∙ behind_refuses s.at b.0 b.1 fault b.3

pub spec_lawful : Lawful spec_field
spec_lawful = record { takes = spec_takes; again = spec_again; fails = spec_fails; refuses = spec_refuses }

-- ---- properties

pub property_lawful : Lawful property_field
property_lawful = mapped_lawful property_of texts_of (text_field then text_field) (λ x. refl) (λ y. refl) (then_lawful text_field text_field text_lawful text_lawful)
