-- Names that changes made, and changes that the rules answer with.
use Rattle.std.proofs.Common.{◌≡◌, ℕ, ◌+◌, ◌==◌, ◌&&◌, Bool, true, false, cond, List, [], ◌∷◌, ◌++◌, length, Option, Some, None, is_none, option_and_then, Ok, refl, sym, ap, subst, ◌∙◌, arith}
use Rattle.frame_wire.specs.Joins.{◌>>=◌}
use Rattle.stream_catalog.specs.declared.holder.Holder.{Holder}
use Rattle.stream_catalog.specs.declared.holder.Holder.TheVariants as holds
use Rattle.stream_catalog.specs.declared.change.Change.{Change}
use Rattle.stream_catalog.specs.declared.fault.CatalogFault.{CatalogFault}
use Rattle.stream_catalog.specs.Names.{Names, no_names}
use Rattle.stream_catalog.specs.Rules.{changed, creates, creates_super, create_all, create_stream, create_refused, super_refused, deletes, deletes_held, deletes_super, deletes_super_held, delete_all, delete_stream, has_room, holder_at, unless}
use Rattle.stream_catalog.specs.Files.{answers, are_new, change_at, fits, fitted, names_after, one_more, or_damaged}
use Rattle.catalog_laws.specs.Changing.{FitAll, IsMade, after_all}

-- ---- one change more

fit_end : (changes : List Change) (c : Change) (names : Names) → FitAll changes names → fits c (after_all changes names) ≡ true → FitAll (changes ++ c ∷ []) names
fit_end [] c names fit last = (last, tt)
fit_end (d ∷ changes) c names fit last = (fit.0, fit_end changes c (changed d names) fit.1 last)

after_end : (changes : List Change) (c : Change) (names : Names) → after_all (changes ++ c ∷ []) names ≡ changed c (after_all changes names)
after_end [] c names = refl
after_end (d ∷ changes) c names = after_end changes c (changed d names)

pub made_next : (names : Names) (c : Change) → IsMade names → fits c names ≡ true → IsMade (changed c names)
made_next names c made fit = record {
  changes = made.changes ++ c ∷ [];
  fit = fit_end made.changes c no_names made.fit (subst (λ (n : Names). fits c n ≡ true) (sym made.are) fit);
  are = after_end made.changes c no_names ∙ ap (λ (n : Names). changed c n) made.are;
}

-- ---- names that are read

-- names that changes made of others
record Grows (old new : Names) : Type 0 where
  pub changes : List Change
  pub fit : FitAll changes old
  pub are : after_all changes old ≡ new

-- the change of a pair
record Took (names more : Names) : Type 0 where
  pub change : Change
  pub fit : fits change names ≡ true
  pub is : changed change names ≡ more

took_change : (names more : Names) (c : Change) → fitted names c ≡ Some more → Took names more
took_change names more c at =
    elim (fits c names) as (λ b. fits c names ≡ b → cond b (Some (changed c names)) None ≡ Some more → Took names more) [
      | true ↦ λ q a. let same : changed c names ≡ more = cc in record { change = c; fit = q; is = same }
      | false ↦ λ q a. absurd cc
    ] refl at

took_found : (names more : Names) (found : Option Change) → option_and_then (fitted names) found ≡ Some more → Took names more
took_found names more None at = absurd cc
took_found names more (Some c) at = took_change names more c at

grows_step : (old more new : Names) → Took old more → Grows more new → Grows old new
grows_step old more new took rest = record {
  changes = took.change ∷ rest.changes;
  fit = (took.fit, subst (λ (n : Names). FitAll rest.changes n) (sym took.is) rest.fit);
  are = ap (λ (n : Names). after_all rest.changes n) took.is ∙ rest.are;
}

read_grows : (bytes : List ℕ) (place : ℕ) (pairs : List (ℕ × ℕ)) (old new : Names) → names_after bytes place pairs old ≡ Ok new → Grows old new
read_grows bytes place [] old new at = let same : old ≡ new = cc in record { changes = []; fit = tt; are = same }
read_grows bytes place (pair ∷ pairs) old new at =
    elim (one_more bytes pair old) as (λ o. one_more bytes pair old ≡ o → (or_damaged place o >>= λ more. names_after bytes (place + 18) pairs more) ≡ Ok new → Grows old new) [
      | None ↦ λ q a. absurd cc
      | Some more ↦ λ q a. grows_step old more new (took_found old more (change_at bytes pair) q) (read_grows bytes (place + 18) pairs more new a)
    ] refl at

pub read_made : (bytes : List ℕ) (pairs : List (ℕ × ℕ)) (names : Names) → names_after bytes 8 pairs no_names ≡ Ok names → IsMade names
read_made bytes pairs names at =
    let g = read_grows bytes 8 pairs no_names names at in
    record { changes = g.changes; fit = g.fit; are = g.are }

-- ---- what the rules answer with fits

-- a change that is not refused happens
record Happens (refused : Option CatalogFault) (room : Bool) (asked c : Change) : Type 0 where
  pub allowed : is_none refused ≡ true
  pub room_is : room ≡ true
  pub is : asked ≡ c

happens : (refused : Option CatalogFault) (room : Bool) (asked c : Change) → unless refused room asked ≡ Ok c → Happens refused room asked c
happens (Some fault) room asked c at = absurd cc
happens None true asked c at = let same : asked ≡ c = cc in record { allowed = refl; room_is = refl; is = same }
happens None false asked c at = absurd cc

new_numbers : (limit count : ℕ) (names : Names) → has_room limit count names ≡ true → are_new (names.last + 1) count names ≡ true
new_numbers limit count names room = grind arith

and_both : (a b : Bool) → a ≡ true → b ≡ true → (a && b) ≡ true
and_both true b h k = k
and_both false b h k = absurd cc

pub create_fits : (limit : ℕ) (name : Option (List ℕ)) (names : Names) (c : Change) → creates limit name names ≡ Ok c → fits c names ≡ true
create_fits limit name names c at =
    let asked = create_stream (names.last + 1) name in
    let h = happens (create_refused name names) (has_room limit 1 names) asked c at in
    subst (λ (d : Change). fits d names ≡ true) h.is (and_both (is_none (create_refused name names)) (are_new (names.last + 1) 1 names) h.allowed (new_numbers limit 1 names h.room_is))

pub super_fits : (limit : ℕ) (name : Option (List ℕ)) (parts keys : List (Option (List ℕ))) (names : Names) (c : Change) → creates_super limit name parts keys names ≡ Ok c → fits c names ≡ true
super_fits limit name parts keys names c at =
    let asked = create_all (names.last + 1) name parts keys in
    let h = happens (super_refused name parts keys names) (has_room limit (length parts) names) asked c at in
    subst (λ (d : Change). fits d names ≡ true) h.is (and_both (is_none (super_refused name parts keys names)) (are_new (names.last + 1) (length parts) names) h.allowed (new_numbers limit (length parts) names h.room_is))

same_number : (n : ℕ) → (n == n) ≡ true
same_number n = grind arith

-- a deletion that the rules answer with is theirs again
pub delete_fits : (name : Option (List ℕ)) (names : Names) (c : Change) → deletes name names ≡ Ok c → fits c names ≡ true
delete_fits name names c at =
    elim (holder_at name names) as (λ o. holder_at name names ≡ o → deletes_held name o ≡ Ok c → fits c names ≡ true) [
      | None ↦ λ q a. absurd cc
      | Some held ↦ held_fits held
    ] refl at
  where
    held_fits : (held : Holder) → holder_at name names ≡ Some held → deletes_held name (Some held) ≡ Ok c → fits c names ≡ true
    held_fits (holds.Stream number) q a =
        let same : delete_stream number name ≡ c = cc in
        subst (λ (d : Change). fits d names ≡ true) same (ap (λ (o : Option Holder). answers number (deletes_held name o)) q ∙ same_number number)
    held_fits (holds.Part number place) q a = absurd cc
    held_fits (holds.Super first parts keys) q a = absurd cc

pub delete_super_fits : (name : Option (List ℕ)) (names : Names) (c : Change) → deletes_super name names ≡ Ok c → fits c names ≡ true
delete_super_fits name names c at =
    elim (holder_at name names) as (λ o. holder_at name names ≡ o → deletes_super_held name o ≡ Ok c → fits c names ≡ true) [
      | None ↦ λ q a. absurd cc
      | Some held ↦ held_fits held
    ] refl at
  where
    held_fits : (held : Holder) → holder_at name names ≡ Some held → deletes_super_held name (Some held) ≡ Ok c → fits c names ≡ true
    held_fits (holds.Stream number) q a = absurd cc
    held_fits (holds.Part number place) q a = absurd cc
    held_fits (holds.Super first parts keys) q a =
        let same : delete_all first name ≡ c = cc in
        subst (λ (d : Change). fits d names ≡ true) same (ap (λ (o : Option Holder). answers first (deletes_super_held name o)) q ∙ same_number first)
