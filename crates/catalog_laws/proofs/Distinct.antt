-- No two names of a list are equal, and each super stream has partitions, whatever changes came.
use Rattle.std.proofs.Common.{◌≡◌, ℕ, ◌+◌, ◌<◌, Bool, true, false, cond, not, ◌||◌, filter, List, [], ◌∷◌, ◌++◌, length, Option, Some, None, is_none, if◌then◌else◌, refl, sym, ap, subst, ◌∙◌, arith}
use Rattle.std.specs.List.{list_any}
use Rattle.std.specs.Map.{lookup}
use Rattle.std.proofs.lemmas.List.{append-nil, append_assoc}
use Rattle.stream_catalog.specs.declared.holder.Holder.{Holder}
use Rattle.stream_catalog.specs.declared.holder.Holder.TheVariants as holds
use Rattle.stream_catalog.specs.declared.change.Change.{Change}
use Rattle.stream_catalog.specs.declared.change.ChangeKind.{ChangeKind}
use Rattle.stream_catalog.specs.declared.change.ChangeKind.TheVariants.{Create, Delete, CreateSuper, DeleteSuper}
use Rattle.stream_catalog.specs.declared.fault.Why.TheVariants as why
use Rattle.stream_catalog.specs.declared.fault.CatalogFault.TheVariants.{Exists, Refused}
use Rattle.stream_catalog.specs.Names.{Names, no_names, same_name}
use Rattle.stream_catalog.specs.Rules.{named, all_differ, all_named, is_name, is_taken, are_parts, count_of, holder_at, is_among, first_of, part_names, changed, changed_by, create_refused, super_refused}
use Rattle.stream_catalog.specs.Files.{fits_as, are_new}
use Rattle.stream_catalog.specs.Adding.{are_free}
use Rattle.stream_catalog.proofs.Fresh.{Entries, both, differs, first_free, free_step, other_free, parts_free, passes, same_flip, untaken}
use Rattle.catalog_laws.specs.Changing.{FitAll, IsMade, after_all}
use Rattle.catalog_laws.proofs.Lookups.{none_append, none_filter}

-- no two names are equal
abbrev pub AreDistinct : Entries → Type 0
AreDistinct [] = Unit {0}
AreDistinct (e ∷ es) = (lookup (same_name e.0) es ≡ None) × AreDistinct es

-- a super stream has partitions
abbrev pub HasParts : Holder → Type 0
HasParts (holds.Stream number) = Unit {0}
HasParts (holds.Part number place) = Unit {0}
HasParts (holds.Super first parts keys) = 0 < length parts

abbrev pub HaveParts : Entries → Type 0
HaveParts [] = Unit {0}
HaveParts (e ∷ es) = HasParts e.1 × HaveParts es

pub record IsOrderly (list : Entries) : Type 0 where
  pub distinct : AreDistinct list
  pub parts : HaveParts list

-- ---- no two names are equal

distinct_end : (list : Entries) (x : List ℕ) (h : Holder) → AreDistinct list → lookup (same_name x) list ≡ None → AreDistinct (list ++ (x, h) ∷ [])
distinct_end [] x h d none = (refl, tt)
distinct_end (e ∷ es) x h d none =
    elim (same_name x e.0) as (λ b. same_name x e.0 ≡ b → cond b (Some e.1) (lookup (same_name x) es) ≡ None → AreDistinct ((e ∷ es) ++ (x, h) ∷ [])) [
      | true ↦ λ q n. absurd cc
      | false ↦ λ q n.
          let other : lookup (same_name e.0) ((x, h) ∷ []) ≡ None = ap (λ (b : Bool). cond b (Some h) None) (same_flip e.0 x ∙ q) in
          (none_append (same_name e.0) es ((x, h) ∷ []) d.0 other, distinct_end es x h d.1 n)
    ] refl none

distinct_filter : (keep : List ℕ × Holder → Bool) (list : Entries) → AreDistinct list → AreDistinct (filter keep list)
distinct_filter keep [] d = tt
distinct_filter keep (e ∷ es) d =
    elim (keep e) as (λ b. AreDistinct (cond b (e ∷ filter keep es) (filter keep es))) [
      | true ↦ (none_filter (same_name e.0) keep es d.0, distinct_filter keep es d.1)
      | false ↦ distinct_filter keep es d.1
    ]

distinct_parts : (list : Entries) (first place : ℕ) (parts : List (Option (List ℕ))) → AreDistinct list → are_free list (all_named parts) ≡ true → AreDistinct (list ++ part_names first place parts)
distinct_parts list first place [] d free = subst AreDistinct (sym (append-nil list)) d
distinct_parts list first place (p ∷ ps) d free =
    let h : Holder = holds.Part (first + place) place in
    let none = first_free list (named p) (all_named ps) free in
    let more = distinct_parts (list ++ (named p, h) ∷ []) first (place + 1) ps (distinct_end list (named p) h d none) (sym (free_step list (named p) (all_named ps) h none) ∙ free) in
    subst AreDistinct (append_assoc list ((named p, h) ∷ []) (part_names first (place + 1) ps)) more

-- ---- partitions

have_append : (xs ys : Entries) → HaveParts xs → HaveParts ys → HaveParts (xs ++ ys)
have_append [] ys one two = two
have_append (x ∷ xs) ys one two = (one.0, have_append xs ys one.1 two)

have_filter : (keep : List ℕ × Holder → Bool) (list : Entries) → HaveParts list → HaveParts (filter keep list)
have_filter keep [] have = tt
have_filter keep (e ∷ es) have =
    elim (keep e) as (λ b. HaveParts (cond b (e ∷ filter keep es) (filter keep es))) [
      | true ↦ (have.0, have_filter keep es have.1)
      | false ↦ have_filter keep es have.1
    ]

have_names : (first place : ℕ) (parts : List (Option (List ℕ))) → HaveParts (part_names first place parts)
have_names first place [] = tt
have_names first place (p ∷ ps) = (tt, have_names first (place + 1) ps)

pub have_found : (test : List ℕ → Bool) (list : Entries) (h : Holder) → HaveParts list → lookup test list ≡ Some h → HasParts h
have_found test [] h have at = absurd cc
have_found test (e ∷ es) h have at =
    elim (test e.0) as (λ b. cond b (Some e.1) (lookup test es) ≡ Some h → HasParts h) [
      | true ↦ λ a. let same : e.1 ≡ h = cc in subst HasParts same have.0
      | false ↦ λ a. have_found test es h have.1 a
    ] at

-- ---- what a change that fits makes of the list

either_not : (a b : Bool) → (a || b) ≡ false → (a ≡ false) × (b ≡ false)
either_not true b h = absurd cc
either_not false b h = (refl, h)

not_true : (b : Bool) → not b ≡ true → b ≡ false
not_true true h = absurd cc
not_true false h = refl

-- a name that the rules don't refuse stands for nothing
name_free : (name : Option (List ℕ)) (names : Names) → is_none (create_refused name names) ≡ true → lookup (same_name (named name)) names.list ≡ None
name_free name names none =
    let named_so = is_name name in
    let taken = is_taken names name in
    let all : (named_so ≡ true) × (taken ≡ false) =
    elim named_so as (λ a. is_none (if not a then Some (Refused why.Name) else if taken then Some Exists else None) ≡ true → (a ≡ true) × (taken ≡ false)) [
      | false ↦ λ h. absurd cc
      | true ↦ elim taken as (λ t. is_none (if t then Some Exists else None) ≡ true → (true ≡ true) × (t ≡ false)) [
        | true ↦ λ h. absurd cc
        | false ↦ λ h. (refl, refl)
      ]
    ] none in
    untaken name names all.0 all.1

orderly_create : (c : Change) (names : Names) → fits_as Create c names ≡ true → IsOrderly names.list → IsOrderly (changed_by Create c names).list
orderly_create c names fit o =
    let none = name_free c.name names (both (is_none (create_refused c.name names)) (are_new c.number 1 names) fit).0 in
    record {
      distinct = distinct_end names.list (named c.name) (holds.Stream c.number) o.distinct none;
      parts = have_append names.list ((named c.name, holds.Stream c.number) ∷ []) o.parts (tt, tt);
    }

some_parts : (name : Option (List ℕ)) (parts keys : List (Option (List ℕ))) → are_parts name parts keys ≡ true → 0 < length parts
some_parts name parts keys right = grind arith

orderly_super : (c : Change) (names : Names) → fits_as CreateSuper c names ≡ true → IsOrderly names.list → IsOrderly (changed_by CreateSuper c names).list
orderly_super c names fit o =
    let p = passes c.name c.parts c.keys names (both (is_none (super_refused c.name c.parts c.keys names)) (are_new c.number (length c.parts) names) fit).0 in
    let parts : Entries = part_names c.number 0 c.parts in
    let held : Holder = holds.Super c.number c.parts c.keys in
    let apart = both (not (list_any (same_name (named c.name)) (all_named c.parts))) (all_differ (all_named c.parts)) (differs c.name c.parts c.keys p.right) in
    let free = either_not (is_taken names c.name) (list_any (is_taken names) c.parts) p.free in
    let none = other_free names.list (named c.name) c.number 0 c.parts (untaken c.name names p.name_is free.0) (not_true (list_any (same_name (named c.name)) (all_named c.parts)) apart.0) in
    record {
      distinct = distinct_end (names.list ++ parts) (named c.name) held (distinct_parts names.list c.number 0 c.parts o.distinct (parts_free c.name c.parts c.keys names p)) none;
      parts = have_append (names.list ++ parts) ((named c.name, held) ∷ []) (have_append names.list parts o.parts (have_names c.number 0 c.parts)) (some_parts c.name c.parts c.keys p.right, tt);
    }

orderly_less : (keep : List ℕ × Holder → Bool) (list : Entries) → IsOrderly list → IsOrderly (filter keep list)
orderly_less keep list o = record { distinct = distinct_filter keep list o.distinct; parts = have_filter keep list o.parts }

orderly_by : (k : ChangeKind) (c : Change) (names : Names) → fits_as k c names ≡ true → IsOrderly names.list → IsOrderly (changed_by k c names).list
orderly_by Create c names fit o = orderly_create c names fit o
orderly_by CreateSuper c names fit o = orderly_super c names fit o
orderly_by Delete c names fit o = orderly_less (λ (e : List ℕ × Holder). not (is_among c.number (count_of (holder_at c.name names)) (first_of e.1))) names.list o
orderly_by DeleteSuper c names fit o = orderly_less (λ (e : List ℕ × Holder). not (is_among c.number (count_of (holder_at c.name names)) (first_of e.1))) names.list o

orderly_all : (changes : List Change) (names : Names) → FitAll changes names → IsOrderly names.list → IsOrderly (after_all changes names).list
orderly_all [] names fit o = o
orderly_all (c ∷ changes) names fit o = orderly_all changes (changed c names) fit.1 (orderly_by c.kind c names fit.0 o)

pub made_orderly : (names : Names) → IsMade names → IsOrderly names.list
made_orderly names made = subst (λ (n : Names). IsOrderly n.list) made.are (orderly_all made.changes no_names made.fit (record { distinct = tt; parts = tt }))
