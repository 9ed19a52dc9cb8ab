-- A byte that tells yes or no is a lawful field.
use Rattle.std.proofs.Common.{◌≡◌, ℕ, zero, suc, ◌<◌, ◌≤◌, ◌⊎◌, Bool, true, false, cond, eqb, Result, Ok, Err, refl, sym, ap, subst, ◌∙◌, arith, inl, inr}
use Rattle.std.proofs.lemmas.Bool.{eqb-true, eqb-false, ne_eqb}
use Rattle.frame_wire.specs.Reading.{Spot}
use Rattle.frame_wire.specs.Formats.{Spelled, u8_field}
use Rattle.frame_wire.specs.Joins.{within}
use Rattle.frame_wire.specs.Laws.{IsBytes, Lawful}
use Rattle.frame_wire.proofs.FieldFormats.{u8_lawful}
use Rattle.frame_wire.proofs.JoinLaws.{bind_ok, bind_err, after_ok, after_err, within_lawful}
use Rattle.frame_wire.proofs.Steps.{ok_is, err_is}
use Rattle.command_fields.specs.declared.fault.DecodeFault.{DecodeFault}
use Rattle.command_fields.specs.declared.fault.DecodeFault.TheVariants.{Flag}
use Rattle.command_fields.specs.Faults.{of_field}
use Rattle.command_admin.specs.Flags.{flag, flag_at, FlagWrong}

byte_lawful : Lawful (within of_field u8_field)
byte_lawful = within_lawful of_field u8_field u8_lawful

abbrev tested : Bool → Bool → ℕ × Spot → DecodeFault → Result (ℕ × Spot) DecodeFault
tested none some n fault = cond none (Ok n) (cond some (Ok n) (Err fault))

abbrev flagged : Spot → ℕ × Spot → Result (ℕ × Spot) DecodeFault
flagged s n = tested (eqb n.0 0) (eqb n.0 1) n (Flag s.at)

taken : (a b : Bool) (n y : ℕ × Spot) (fault : DecodeFault) → tested a b n fault ≡ Ok y → ((a ≡ true) ⊎ (b ≡ true)) × (n ≡ y)
taken true b n y fault e = (inl refl, ok_is {A = ℕ × Spot} {F = DecodeFault} n y e)
taken false true n y fault e = (inr refl, ok_is {A = ℕ × Spot} {F = DecodeFault} n y e)
taken false false n y fault e = absurd cc

refused : (a b : Bool) (n : ℕ × Spot) (other fault : DecodeFault) → tested a b n other ≡ Err fault → (a ≡ false) × (b ≡ false) × (fault ≡ other)
refused true b n other fault e = absurd cc
refused false true n other fault e = absurd cc
refused false false n other fault e = (refl, refl, sym (err_is {A = ℕ × Spot} other fault e))

small : (n : ℕ) → (eqb n 0 ≡ true) ⊎ (eqb n 1 ≡ true) → n ≤ 1
small n (inl e) = let is : n ≡ 0 = eqb-true n 0 e in omega arith
small n (inr e) = let is : n ≡ 1 = eqb-true n 1 e in omega arith

large : (n : ℕ) → eqb n 0 ≡ false → eqb n 1 ≡ false → 1 < n
large n a b =
    let some = eqb-false n 0 a in
    let more = eqb-false n 1 b in
    grind arith

takes : (s : Spot) (x : ℕ) (t : Spot) → IsBytes s.rest → flag_at s ≡ Ok (x, t) → Spelled flag s x t
takes s x t fits e =
    let a = bind_ok ((within of_field u8_field).read s) (flagged s) (x, t) e in
    let b = taken (eqb a.0.0 0) (eqb a.0.0 1) a.0 (x, t) (Flag s.at) a.2 in
    let all = byte_lawful.takes s a.0.0 a.0.1 fits a.1 in
    let here : Spelled flag s a.0.0 a.0.1 = record { fits = small a.0.0 b.0; parts = all.parts; moved = all.moved } in
    subst (λ (y : ℕ × Spot). Spelled flag s y.0 y.1) b.1 here

flags : (n : ℕ) (t : Spot) (fault : DecodeFault) → n ≤ 1 → tested (eqb n 0) (eqb n 1) (n, t) fault ≡ Ok (n, t)
flags zero t fault le = refl
flags (suc zero) t fault le = refl
flags (suc (suc n)) t fault le = absurd (omega arith)

again : (s : Spot) (x : ℕ) (t : Spot) → Spelled flag s x t → flag_at s ≡ Ok (x, t)
again s x t all =
    let le : x ≤ 1 = all.fits in
    let there : Spelled (within of_field u8_field) s x t = record { fits = omega arith; parts = all.parts; moved = all.moved } in
    after_ok ((within of_field u8_field).read s) (flagged s) (x, t) (byte_lawful.again s x t there) ∙ flags x t (Flag s.at) le

fails : (s : Spot) (fault : DecodeFault) → IsBytes s.rest → flag_at s ≡ Err fault → FlagWrong s fault
fails s fault fits e =
    elim (bind_err ((within of_field u8_field).read s) (flagged s) fault e) [
      | inl a ↦ inl (byte_lawful.fails s fault fits a)
      | inr a ↦
          let b = refused (eqb a.0.0 0) (eqb a.0.0 1) a.0 (Flag s.at) fault a.2 in
          let all = byte_lawful.takes s a.0.0 a.0.1 fits a.1 in
          inr (a.0.0, a.0.1, record { fits = all.fits; parts = all.parts; moved = all.moved }, large a.0.0 b.0 b.1, b.2)
    ]

refuses : (s : Spot) (fault : DecodeFault) → FlagWrong s fault → flag_at s ≡ Err fault
refuses s fault (inl wrong) = after_err ((within of_field u8_field).read s) (flagged s) fault (byte_lawful.refuses s fault wrong)
refuses s fault (inr (n, t, all, above, is)) =
    let there : Spelled (within of_field u8_field) s n t = record { fits = all.fits; parts = all.parts; moved = all.moved } in
    let zero_is : eqb n 0 ≡ false = ne_eqb n 0 (λ e. omega arith) in
    let one_is : eqb n 1 ≡ false = ne_eqb n 1 (λ e. omega arith) in
    after_ok ((within of_field u8_field).read s) (flagged s) (n, t) (byte_lawful.again s n t there) ∙ rw zero_is (rw one_is (ap (λ e. Err e) (sym is)))

pub flag_lawful : Lawful flag
flag_lawful = record { takes = takes; again = again; fails = fails; refuses = refuses }
