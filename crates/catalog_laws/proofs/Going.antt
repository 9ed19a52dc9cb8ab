-- Names that go with the numbers for which they stand, and names that stay.
use Rattle.std.proofs.Common.{◌≡◌, ℕ, ◌<◌, ◌==◌, Bool, true, false, cond, not, filter, List, [], ◌∷◌, length, Option, Some, None, refl, sym, ap, subst, ◌∙◌, arith}
use Rattle.std.specs.Map.{lookup}
use Rattle.std.specs.Cmp.Lexicographic.{bytes_decides}
use Rattle.stream_catalog.specs.declared.holder.Holder.{Holder}
use Rattle.stream_catalog.specs.declared.holder.Holder.TheVariants as holds
use Rattle.stream_catalog.specs.declared.change.Change.{Change}
use Rattle.stream_catalog.specs.declared.change.ChangeKind.{ChangeKind}
use Rattle.stream_catalog.specs.declared.change.ChangeKind.TheVariants.{Create, Delete, CreateSuper, DeleteSuper}
use Rattle.stream_catalog.specs.Names.{Names, same_name, holder_of}
use Rattle.stream_catalog.specs.Rules.{changed, changed_by, count_of, deletes_held, deletes_super_held, first_of, holder_at, is_among, without}
use Rattle.stream_catalog.specs.Files.{answers, fits, fits_as}
use Rattle.stream_catalog.specs.Adding.{Goes}
use Rattle.stream_catalog.proofs.Fresh.{Entries}
use Rattle.catalog_laws.specs.Changing.{IsMade, goes_with}
use Rattle.catalog_laws.proofs.Lookups.{none_filter}
use Rattle.catalog_laws.proofs.Distinct.{AreDistinct, HasParts, have_found, made_orderly}

abbrev Kept : (Holder → Bool) → Entries → Entries
Kept test list = filter (λ e. test e.1) list

-- a name that stands for what is not kept stands for nothing then
found_gone : (test : Holder → Bool) (x : List ℕ) (h : Holder) (list : Entries) → AreDistinct list → lookup (same_name x) list ≡ Some h → test h ≡ false → lookup (same_name x) (Kept test list) ≡ None
found_gone test x h [] d at gone = absurd cc
found_gone test x h (e ∷ es) d at gone =
    elim (same_name x e.0) as (λ b. same_name x e.0 ≡ b → cond b (Some e.1) (lookup (same_name x) es) ≡ Some h → lookup (same_name x) (Kept test (e ∷ es)) ≡ None) [
      | true ↦ λ q a.
          let same : e.1 ≡ h = cc in
          let x_is : x ≡ e.0 = (bytes_decides x e.0).0 q in
          let none : lookup (same_name x) es ≡ None = subst (λ (n : List ℕ). lookup (same_name n) es ≡ None) (sym x_is) d.0 in
          ap (λ (b : Bool). lookup (same_name x) (cond b (e ∷ Kept test es) (Kept test es))) (ap test same ∙ gone) ∙ none_filter (same_name x) (λ (e : List ℕ × Holder). test e.1) es none
      | false ↦ λ q a.
          let rest = found_gone test x h es d.1 a gone in
          elim (test e.1) as (λ k. lookup (same_name x) (cond k (e ∷ Kept test es) (Kept test es)) ≡ None) [
            | true ↦ ap (λ (b : Bool). cond b (Some e.1) (lookup (same_name x) (Kept test es))) q ∙ rest
            | false ↦ rest
          ]
    ] refl at

-- one that stands for what is kept stands for it
found_kept : (test : Holder → Bool) (x : List ℕ) (h : Holder) (list : Entries) → lookup (same_name x) list ≡ Some h → test h ≡ true → lookup (same_name x) (Kept test list) ≡ Some h
found_kept test x h [] at kept = absurd cc
found_kept test x h (e ∷ es) at kept =
    elim (same_name x e.0) as (λ b. same_name x e.0 ≡ b → cond b (Some e.1) (lookup (same_name x) es) ≡ Some h → lookup (same_name x) (Kept test (e ∷ es)) ≡ Some h) [
      | true ↦ λ q a.
          let same : e.1 ≡ h = cc in
          ap (λ (b : Bool). lookup (same_name x) (cond b (e ∷ Kept test es) (Kept test es))) (ap test same ∙ kept)
          ∙ ap (λ (b : Bool). cond b (Some e.1) (lookup (same_name x) (Kept test es))) q ∙ a
      | false ↦ λ q a.
          let rest = found_kept test x h es a kept in
          elim (test e.1) as (λ k. lookup (same_name x) (cond k (e ∷ Kept test es) (Kept test es)) ≡ Some h) [
            | true ↦ ap (λ (b : Bool). cond b (Some e.1) (lookup (same_name x) (Kept test es))) q ∙ rest
            | false ↦ rest
          ]
    ] refl at

-- ---- the names after a change

goes_list : (k : ChangeKind) (c : Change) (names : Names) → Goes k → (changed_by k c names).list ≡ without c.number (count_of (holder_at c.name names)) names.list
goes_list Create c names goes = absurd goes
goes_list CreateSuper c names goes = absurd goes
goes_list Delete c names goes = refl
goes_list DeleteSuper c names goes = refl

pub each_gone : (names : Names) (c : Change) (name : List ℕ) (held : Holder) → IsMade names → Goes c.kind → holder_of name names ≡ Some held → goes_with c names held ≡ true → holder_of name (changed c names) ≡ None
each_gone names c name held made goes at with_it =
    ap (λ (l : Entries). lookup (same_name name) l) (goes_list c.kind c names goes)
    ∙ found_gone (λ h. not (goes_with c names h)) name held names.list (made_orderly names made).distinct at (ap not with_it)

pub others_stay : (names : Names) (c : Change) (name : List ℕ) (held : Holder) → Goes c.kind → holder_of name names ≡ Some held → goes_with c names held ≡ false → holder_of name (changed c names) ≡ Some held
others_stay names c name held goes at other =
    ap (λ (l : Entries). lookup (same_name name) l) (goes_list c.kind c names goes) ∙ found_kept (λ h. not (goes_with c names h)) name held names.list at (ap not other)

pub none_stays : (names : Names) (c : Change) (name : List ℕ) → Goes c.kind → holder_of name names ≡ None → holder_of name (changed c names) ≡ None
none_stays names c name goes none =
    ap (λ (l : Entries). lookup (same_name name) l) (goes_list c.kind c names goes)
    ∙ none_filter (same_name name) (λ (e : List ℕ × Holder). not (goes_with c names e.1)) names.list none

-- ---- the name of the change itself

among_first : (n count m : ℕ) → 0 < count → (m == n) ≡ true → is_among n count m ≡ true
among_first n count m some same = grind arith

-- what the name of a change that goes stands for goes with it
own_with : (k : ChangeKind) (c : Change) (names : Names) (held : Holder) → Goes k → fits_as k c names ≡ true → holder_at c.name names ≡ Some held → HasParts held → goes_with c names held ≡ true
own_with Create c names held goes fit at have = absurd goes
own_with CreateSuper c names held goes fit at have = absurd goes
own_with Delete c names held goes fit at have =
    let fit_held : answers c.number (deletes_held c.name (Some held)) ≡ true = ap (λ (o : Option Holder). answers c.number (deletes_held c.name o)) (sym at) ∙ fit in
    let among : is_among c.number (count_of (Some held)) (first_of held) ≡ true = alone held fit_held in
    ap (λ (o : Option Holder). is_among c.number (count_of o) (first_of held)) at ∙ among
  where
    alone : (held : Holder) → answers c.number (deletes_held c.name (Some held)) ≡ true → is_among c.number (count_of (Some held)) (first_of held) ≡ true
    alone (holds.Stream number) fit = among_first c.number 1 number (omega arith) fit
    alone (holds.Part number place) fit = absurd cc
    alone (holds.Super first parts keys) fit = absurd cc
own_with DeleteSuper c names held goes fit at have =
    let fit_held : answers c.number (deletes_super_held c.name (Some held)) ≡ true = ap (λ (o : Option Holder). answers c.number (deletes_super_held c.name o)) (sym at) ∙ fit in
    let among : is_among c.number (count_of (Some held)) (first_of held) ≡ true = all held have fit_held in
    ap (λ (o : Option Holder). is_among c.number (count_of o) (first_of held)) at ∙ among
  where
    all : (held : Holder) → HasParts held → answers c.number (deletes_super_held c.name (Some held)) ≡ true → is_among c.number (count_of (Some held)) (first_of held) ≡ true
    all (holds.Stream number) have fit = absurd cc
    all (holds.Part number place) have fit = absurd cc
    all (holds.Super first parts keys) have fit = among_first c.number (length parts) first have fit

own_named : (names : Names) (c : Change) (name : List ℕ) → c.name ≡ Some name → IsMade names → Goes c.kind → fits c names ≡ true → holder_of name (changed c names) ≡ None
own_named names c name is made goes fit =
    elim (holder_of name names) as (λ o. holder_of name names ≡ o → holder_of name (changed c names) ≡ None) [
      | None ↦ λ q. none_stays names c name goes q
      | Some held ↦ λ q.
          let at : holder_at c.name names ≡ Some held = ap (λ (n : Option (List ℕ)). holder_at n names) is ∙ q in
          each_gone names c name held made goes q (own_with c.kind c names held goes fit at (have_found (same_name name) names.list held (made_orderly names made).parts q))
    ] refl

pub own_gone : (names : Names) (c : Change) → IsMade names → Goes c.kind → fits c names ≡ true → holder_at c.name (changed c names) ≡ None
own_gone names c made goes fit =
    elim c.name as (λ n. c.name ≡ n → holder_at n (changed c names) ≡ None) [
      | None ↦ λ q. refl
      | Some name ↦ λ q. own_named names c name q made goes fit
    ] refl
