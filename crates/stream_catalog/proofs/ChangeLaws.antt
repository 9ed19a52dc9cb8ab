-- The bytes of a change are a lawful format.
use Rattle.std.proofs.Common.{◌≡◌, ℕ, ◌+◌, ◌<◌, ◌^◌, ◌==◌, Bool, true, false, if◌then◌else◌, List, [], length, Option, Some, None, Ok, refl, sym, ap, subst, ◌∙◌, arith}
use Rattle.std.proofs.lemmas.List.{append-nil}
use Rattle.frame_wire.specs.declared.fault.FieldFault.{FieldFault}
use Rattle.frame_wire.specs.declared.fault.FieldFault.TheVariants.{Short}
use Rattle.frame_wire.specs.Reading.{Spot}
use Rattle.frame_wire.specs.Formats.{Spelled, u8_field, u32_field, text_field}
use Rattle.frame_wire.specs.Joins.{◌then◌, list}
use Rattle.frame_wire.specs.Items.{same_fault}
use Rattle.frame_wire.specs.Laws.{Lawful, OneOutcome}
use Rattle.frame_wire.proofs.Steps.{ok_is, no_both}
use Rattle.frame_wire.proofs.FieldFormats.{u8_lawful, u32_lawful, text_lawful}
use Rattle.frame_wire.proofs.JoinLaws.{then_lawful, list_lawful, one_outcome}
use Rattle.frame_wire.proofs.ViewLaws.{behind_lawful, viewed_lawful}
use Rattle.stream_catalog.specs.declared.change.Change.{Change}
use Rattle.stream_catalog.specs.declared.change.ChangeKind.{ChangeKind}
use Rattle.stream_catalog.specs.declared.change.ChangeKind.TheVariants.{Create, Delete, CreateSuper, DeleteSuper}
use Rattle.stream_catalog.specs.ChangeBytes.{Texts, number_of_kind, kind_of_number, no_lists, lists_where, lists_of, ChangeFields, change_fields, with_kind, few, change_made, change_parts, HasLists, IsChange, change_format, change_bytes, whole, change_of}

-- ---- no lists

abbrev spot_of : ℕ → List ℕ → Spot
spot_of at rest = record { at = at; rest = rest }

same_spots : (s t : Spot) → s.rest ≡ t.rest → t.at ≡ s.at + 0 → s ≡ t
same_spots s t rest at = let here : s.at ≡ t.at = omega (arith, at) in ap (λ (n : ℕ). spot_of n s.rest) here ∙ ap (λ (r : List ℕ). spot_of t.at r) rest

no_lists_lawful : Lawful no_lists
no_lists_lawful = record {
  takes = λ s x t bytes e.
      let is = ok_is {A = (Texts × Texts) × Spot} {F = FieldFault} (([], []), s) (x, t) e in
      let here : Spelled no_lists s ([], []) s = record { fits = refl; parts = refl; moved = omega arith } in
      subst (λ (p : (Texts × Texts) × Spot). Spelled no_lists s p.0 p.1) is here;
  again = λ s x t all.
      let same : s ≡ t = same_spots s t all.parts all.moved in
      let lists : ([], []) ≡ x = sym all.fits in
      (ap (λ (u : Spot). Ok (([], []), u)) same ∙ ap (λ (l : Texts × Texts). Ok (l, t)) lists);
  fails = λ s fault bytes e. absurd (no_both {A = (Texts × Texts) × Spot} (([], []), s) fault e);
  refuses = λ s fault wrong. absurd wrong;
}

lists_lawful : (b : Bool) → Lawful (lists_where b)
lists_lawful true = then_lawful (list same_fault text_field) (list same_fault text_field) (list_lawful same_fault text_field text_lawful) (list_lawful same_fault text_field text_lawful)
lists_lawful false = no_lists_lawful

fields_lawful : Lawful change_fields
fields_lawful =
    behind_lawful (u8_field then u32_field then text_field) (λ head. lists_of head.0) (then_lawful u8_field (u32_field then text_field) u8_lawful (then_lawful u32_field text_field u32_lawful text_lawful)) (λ head. lists_lawful (head.0 == 3))

-- ---- changes and their fields

number_small : (k : ChangeKind) → number_of_kind k < 2 ^ 8
number_small Create = omega arith
number_small Delete = omega arith
number_small CreateSuper = omega arith
number_small DeleteSuper = omega arith

kind_again : (k : ChangeKind) → kind_of_number (number_of_kind k) ≡ Some k
kind_again Create = refl
kind_again Delete = refl
kind_again CreateSuper = refl
kind_again DeleteSuper = refl

fit_lists : (k : ChangeKind) (lists : Texts × Texts) → HasLists k lists → (lists_of (number_of_kind k)).Fits lists
fit_lists Create lists has = has
fit_lists Delete lists has = has
fit_lists CreateSuper lists has = has
fit_lists DeleteSuper lists has = has

has_lists : (k : ChangeKind) (lists : Texts × Texts) → (lists_of (number_of_kind k)).Fits lists → HasLists k lists
has_lists Create lists fits = fits
has_lists Delete lists fits = fits
has_lists CreateSuper lists fits = fits
has_lists DeleteSuper lists fits = fits

equal : (n m : ℕ) → (n == m) ≡ true → n ≡ m
equal n m e = grind arith

kind_back : (n : ℕ) (k : ChangeKind) → kind_of_number n ≡ Some k → number_of_kind k ≡ n
kind_back n k is =
    elim (n == 1) as (λ b. (n == 1) ≡ b → (if b then Some Create else if n == 2 then Some Delete else if n == 3 then Some CreateSuper else if n == 4 then Some DeleteSuper else None) ≡ Some k → number_of_kind k ≡ n) [
      | true ↦ λ e h. let same : Create ≡ k = cc in ap number_of_kind (sym same) ∙ sym (equal n 1 e)
      | false ↦ λ e1 h1. elim (n == 2) as (λ b. (n == 2) ≡ b → (if b then Some Delete else if n == 3 then Some CreateSuper else if n == 4 then Some DeleteSuper else None) ≡ Some k → number_of_kind k ≡ n) [
        | true ↦ λ e h. let same : Delete ≡ k = cc in ap number_of_kind (sym same) ∙ sym (equal n 2 e)
        | false ↦ λ e2 h2. elim (n == 3) as (λ b. (n == 3) ≡ b → (if b then Some CreateSuper else if n == 4 then Some DeleteSuper else None) ≡ Some k → number_of_kind k ≡ n) [
          | true ↦ λ e h. let same : CreateSuper ≡ k = cc in ap number_of_kind (sym same) ∙ sym (equal n 3 e)
          | false ↦ λ e3 h3. elim (n == 4) as (λ b. (n == 4) ≡ b → (if b then Some DeleteSuper else None) ≡ Some k → number_of_kind k ≡ n) [
            | true ↦ λ e h. let same : DeleteSuper ≡ k = cc in ap number_of_kind (sym same) ∙ sym (equal n 4 e)
            | false ↦ λ e h. absurd cc
          ] refl h3
        ] refl h2
      ] refl h1
    ] refl is

few_is : (lists : Texts × Texts) → length lists.0 < 65536 → length lists.1 < 65536 → few lists ≡ true
few_is lists a b = grind arith

few_parts : (lists : Texts × Texts) → few lists ≡ true → (length lists.0 < 65536) × (length lists.1 < 65536)
few_parts lists is = (few_first lists is, few_second lists is)
  where
    few_first : (lists : Texts × Texts) → few lists ≡ true → length lists.0 < 65536
    few_first lists is = grind arith

    few_second : (lists : Texts × Texts) → few lists ≡ true → length lists.1 < 65536
    few_second lists is = grind arith

right_change : (c : Change) → IsChange c → change_fields.Fits (change_parts c) × (change_made (change_parts c) ≡ Some c)
right_change c is =
    let all : change_fields.Fits (change_parts c) = ((number_small c.kind, (is.number, is.name)), fit_lists c.kind (c.parts, c.keys) is.lists) in
    let made : change_made (change_parts c) ≡ Some c =
    ap (λ (b : Bool). if b then with_kind (kind_of_number (number_of_kind c.kind)) (change_parts c) else None) (few_is (c.parts, c.keys) is.parts is.keys)
    ∙ ap (λ (k : Option ChangeKind). with_kind k (change_parts c)) (kind_again c.kind) in
    (all, made)

abbrev change_with : ChangeKind → ChangeFields → Change
change_with kind fields = record { kind = kind; number = fields.0.1.0; name = fields.0.1.1; parts = fields.1.0; keys = fields.1.1 }

made_with : (x : ChangeFields) (k : ChangeKind) → change_fields.Fits x → few x.1 ≡ true → kind_of_number x.0.0 ≡ Some k → IsChange (change_with k x) × (change_parts (change_with k x) ≡ x)
made_with x k fits few_lists is =
    let number = kind_back x.0.0 k is in
    let few_each = few_parts x.1 few_lists in
    let lists = has_lists k x.1 (subst (λ (n : ℕ). (lists_of n).Fits x.1) (sym number) fits.1) in (
      record { number = fits.0.1.0; name = fits.0.1.1; lists = lists; parts = few_each.0; keys = few_each.1 },
      ap (λ (n : ℕ). ((n, x.0.1), x.1)) number,
    )

made_change : (x : ChangeFields) (y : Change) → change_fields.Fits x → change_made x ≡ Some y → IsChange y × (change_parts y ≡ x)
made_change x y fits made =
    elim (few x.1) as (λ b. few x.1 ≡ b → (if b then with_kind (kind_of_number x.0.0) x else None) ≡ Some y → IsChange y × (change_parts y ≡ x)) [
      | false ↦ λ e h. absurd cc
      | true ↦ λ e h.
          elim (kind_of_number x.0.0) as (λ o. kind_of_number x.0.0 ≡ o → with_kind o x ≡ Some y → IsChange y × (change_parts y ≡ x)) [
            | None ↦ λ f g. absurd cc
            | Some k ↦ λ f g.
                let same : change_with k x ≡ y = cc in
                subst (λ (c : Change). IsChange c × (change_parts c ≡ x)) same (made_with x k fits e f)
          ] refl h
    ] refl made

pub change_lawful : Lawful change_format
change_lawful = viewed_lawful change_made change_parts IsChange Short change_fields fields_lawful (record { right = right_change; made = made_change })

pub change_outcome : OneOutcome change_format
change_outcome = one_outcome change_format change_lawful

-- what is spelled is read again
pub change_again : (c : Change) → IsChange c → change_of (change_bytes c) ≡ Some c
unfolding change_of
change_again c is =
    let bytes = change_bytes c in
    let end = spot_of (length bytes) [] in
    let there : Spelled change_format (spot_of 0 bytes) c end = record { fits = is; parts = sym (append-nil bytes); moved = omega arith } in
    ap whole (change_lawful.again (spot_of 0 bytes) c end there)
