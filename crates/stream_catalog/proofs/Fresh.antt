-- New names, put behind a list of names one after the other.
use Rattle.std.proofs.Common.{◌≡◌, ℕ, ◌+◌, ◌<◌, ◌≤◌, Bool, true, false, cond, not, ◌&&◌, ◌||◌, List, [], ◌∷◌, ◌++◌, length, take, drop, get_or, Option, Some, None, is_none, is_some, if◌then◌else◌, refl, sym, ap, ◌∙◌, arith}
use Rattle.std.specs.Bool.{Decides}
use Rattle.std.specs.List.{list_any, list_all}
use Rattle.std.specs.Map.{lookup}
use Rattle.std.specs.Cmp.Lexicographic.{bytes_decides}
use Rattle.std.proofs.lemmas.List.{append-nil, append_assoc, drop_more, drop_all, take-append-le, length-take, take_all}
use Rattle.stream_catalog.specs.declared.holder.Holder.{Holder}
use Rattle.stream_catalog.specs.declared.holder.Holder.TheVariants as holds
use Rattle.stream_catalog.specs.Names.{Names, same_name, holder_of}
use Rattle.stream_catalog.specs.declared.fault.Why.TheVariants as why
use Rattle.stream_catalog.specs.declared.fault.CatalogFault.TheVariants.{Exists, Refused}
use Rattle.stream_catalog.specs.Rules.{named, all_differ, all_named, part_names, is_name, is_taken, are_parts, super_refused}
use Rattle.stream_catalog.specs.declared.change.Change.{Change}
use Rattle.stream_catalog.specs.declared.change.ChangeKind.{ChangeKind}
use Rattle.stream_catalog.specs.declared.change.ChangeKind.TheVariants.{CreateSuper}
use Rattle.stream_catalog.specs.Files.{fits, fits_as, are_new}
use Rattle.stream_catalog.specs.Adding.{are_free}

abbrev pub Entries : Type 0
Entries = List (List ℕ × Holder)

same_decides : (a b : List ℕ) → Decides (same_name a b) (a ≡ b)
same_decides a b = bytes_decides a b

pub same_self : (a : List ℕ) → same_name a a ≡ true
same_self a = (same_decides a a).1 refl

pub same_flip : (x y : List ℕ) → same_name x y ≡ same_name y x
same_flip x y =
    elim (same_name x y) as (λ b. same_name x y ≡ b → b ≡ same_name y x) [
      | true ↦ λ e. sym ((same_decides y x).1 (sym ((same_decides x y).0 e)))
      | false ↦ λ e.
          elim (same_name y x) as (λ d. same_name y x ≡ d → false ≡ d) [
            | true ↦ λ f. let both : true ≡ false = sym ((same_decides x y).1 (sym ((same_decides y x).0 f))) ∙ e in absurd cc
            | false ↦ λ f. refl
          ] refl
    ] refl

-- ---- what a name stands for, with one name more behind all

pub lookup_more : (test : List ℕ → Bool) (list : Entries) (x : List ℕ) (h : Holder) → is_none (lookup test (list ++ (x, h) ∷ [])) ≡ (is_none (lookup test list) && not (test x))
lookup_more test [] x h = elim (test x) as (λ b. is_none (cond b (Some h) None) ≡ (true && not b)) [ true ↦ refl | false ↦ refl ]
lookup_more test (e ∷ es) x h =
    elim (test e.0) as (λ b. is_none (cond b (Some e.1) (lookup test (es ++ (x, h) ∷ []))) ≡ (is_none (cond b (Some e.1) (lookup test es)) && not (test x))) [ true ↦ refl | false ↦ lookup_more test es x h ]

four : (a b c d : Bool) → ((a && not b) && (c && not d)) ≡ ((a && c) && not (b || d))
four true true true true = refl
four true true true false = refl
four true true false true = refl
four true true false false = refl
four true false true true = refl
four true false true false = refl
four true false false true = refl
four true false false false = refl
four false b c d = refl

three : (c d e : Bool) → (c && (not d && e)) ≡ ((c && not d) && e)
three true d e = refl
three false d e = refl

free_of : Entries → List (List ℕ) → Bool
free_of list names = list_all (λ name. is_none (lookup (same_name name) list)) names

-- none of the names stands for something in a longer list, where none does in the list and none is the one that is new
apart : (list : Entries) (x : List ℕ) (h : Holder) (names : List (List ℕ)) → list_all (λ name. is_none (lookup (same_name name) (list ++ (x, h) ∷ []))) names ≡ (list_all (λ name. is_none (lookup (same_name name) list)) names && not (list_any (same_name x) names))
apart list x h [] = refl
apart list x h (y ∷ ys) =
    let here : is_none (lookup (same_name y) (list ++ (x, h) ∷ [])) ≡ (is_none (lookup (same_name y) list) && not (same_name x y)) = lookup_more (same_name y) list x h ∙ ap (λ (b : Bool). is_none (lookup (same_name y) list) && not b) (same_flip y x) in
    ap (λ (b : Bool). b && list_all (λ name. is_none (lookup (same_name name) (list ++ (x, h) ∷ []))) ys) here
    ∙ ap (λ (b : Bool). (is_none (lookup (same_name y) list) && not (same_name x y)) && b) (apart list x h ys)
    ∙ four (is_none (lookup (same_name y) list)) (same_name x y) (list_all (λ name. is_none (lookup (same_name name) list)) ys) (list_any (same_name x) ys)

-- one name is put behind all, and the others are still free
pub free_step : (list : Entries) (x : List ℕ) (xs : List (List ℕ)) (h : Holder) → lookup (same_name x) list ≡ None → are_free list (x ∷ xs) ≡ are_free (list ++ (x, h) ∷ []) xs
free_step list x xs h none =
    let all = list_all (λ name. is_none (lookup (same_name name) list)) xs in
    ap (λ (o : Option Holder). (is_none o && all) && (not (list_any (same_name x) xs) && all_differ xs)) none
    ∙ three all (list_any (same_name x) xs) (all_differ xs)
    ∙ ap (λ (b : Bool). b && all_differ xs) (sym (apart list x h xs))

-- the first of free names stands for nothing
pub first_free : (list : Entries) (x : List ℕ) (xs : List (List ℕ)) → are_free list (x ∷ xs) ≡ true → lookup (same_name x) list ≡ None
first_free list x xs free =
    elim (lookup (same_name x) list) as (λ o. ((is_none o && list_all (λ name. is_none (lookup (same_name name) list)) xs) && all_differ (x ∷ xs)) ≡ true → o ≡ None) [
      | None ↦ λ h. refl
      | Some v ↦ λ h. absurd cc
    ] free

-- a name that stands for something isn't free
pub not_free : (list : Entries) (x : List ℕ) (xs : List (List ℕ)) → is_some (lookup (same_name x) list) ≡ true → are_free list (x ∷ xs) ≡ false
not_free list x xs there =
    elim (lookup (same_name x) list) as (λ o. is_some o ≡ true → ((is_none o && list_all (λ name. is_none (lookup (same_name name) list)) xs) && all_differ (x ∷ xs)) ≡ false) [
      | None ↦ λ h. absurd cc
      | Some v ↦ λ h. refl
    ] there

-- the first name of all
pub free_start : (x : List ℕ) (xs : List (List ℕ)) (h : Holder) → are_free ((x, h) ∷ []) xs ≡ all_differ (x ∷ xs)
free_start x xs h = sym (free_step [] x xs h refl) ∙ ap (λ (b : Bool). b && all_differ (x ∷ xs)) (none_there (x ∷ xs))
  where
    none_there : (names : List (List ℕ)) → list_all (λ name. is_none (lookup {X = Holder} (same_name name) [])) names ≡ true
    none_there [] = refl
    none_there (y ∷ ys) = none_there ys

-- ---- the names of partitions

-- some partitions were put behind the names of old, up to this place
pub record Put (old : Names) (first : ℕ) (parts : List (Option (List ℕ))) (place : ℕ) (now : Names) : Type 0 where
  pub list : now.list ++ part_names first place (drop place parts) ≡ old.list ++ part_names first 0 parts
  pub front : take (length old.list) now.list ≡ old.list
  pub free : are_free now.list (all_named (drop place parts)) ≡ true
  pub last : now.last ≡ old.last

pub put_none : (old : Names) (first : ℕ) (parts : List (Option (List ℕ))) → are_free old.list (all_named parts) ≡ true → Put old first parts 0 old
put_none old first parts free = record { list = refl; front = take_all (length old.list) old.list (omega arith); free = free; last = refl }

abbrev pub front_at : Option (List ℕ) → List (Option (List ℕ)) → ℕ → Type 0
front_at part parts place = drop place parts ≡ part ∷ drop (place + 1) parts

pub part_there : (parts : List (Option (List ℕ))) (place : ℕ) (part : Option (List ℕ)) → place < length parts → part ≡ get_or parts place part → front_at part parts place
part_there parts place part lt at = drop_more parts place part lt ∙ ap (λ (x : Option (List ℕ)). x ∷ drop (place + 1) parts) (sym at)

pub put_free : (old now : Names) (first place : ℕ) (parts : List (Option (List ℕ))) (part : Option (List ℕ)) → front_at part parts place → Put old first parts place now → holder_of (named part) now ≡ None
put_free old now first place parts part at p = first_free now.list (named part) (all_named (drop (place + 1) parts)) (ap (λ (l : List (Option (List ℕ))). are_free now.list (all_named l)) (sym at) ∙ p.free)

pub put_next : (old now new : Names) (first place : ℕ) (parts : List (Option (List ℕ))) (part : Option (List ℕ)) → front_at part parts place → Put old first parts place now
    → new.list ≡ now.list ++ (named part, holds.Part (first + place) place) ∷ [] → new.last ≡ now.last → Put old first parts (place + 1) new
put_next old now new first place parts part at p is last =
    let h : Holder = holds.Part (first + place) place in
    let rest = drop (place + 1) parts in
    let none = put_free old now first place parts part at p in
    let within : length old.list ≤ length now.list = omega (arith, ap length p.front, length-take (length old.list) now.list) in
    record {
      list = ap (λ (l : Entries). l ++ part_names first (place + 1) rest) is ∙ append_assoc now.list ((named part, h) ∷ []) (part_names first (place + 1) rest) ∙ ap (λ (l : List (Option (List ℕ))). now.list ++ part_names first place l) (sym at) ∙ p.list;
      front = ap (take (length old.list)) is ∙ take-append-le (length old.list) now.list ((named part, h) ∷ []) within ∙ p.front;
      free = ap (λ (l : Entries). are_free l (all_named rest)) is ∙ sym (free_step now.list (named part) (all_named rest) h none) ∙ ap (λ (l : List (Option (List ℕ))). are_free now.list (all_named l)) (sym at) ∙ p.free;
      last = last ∙ p.last;
    }

pub put_all : (old now : Names) (first place : ℕ) (parts : List (Option (List ℕ))) → length parts ≤ place → Put old first parts place now → now.list ≡ old.list ++ part_names first 0 parts
put_all old now first place parts end p =
    let none : drop place parts ≡ [] = drop_all place parts end in
    sym (append-nil now.list) ∙ ap (λ (l : List (Option (List ℕ))). now.list ++ part_names first place l) (sym none) ∙ p.list

-- a name that is none of the partitions' stands for nothing behind them
pub other_free : (list : Entries) (x : List ℕ) (first place : ℕ) (parts : List (Option (List ℕ))) → lookup (same_name x) list ≡ None → list_any (same_name x) (all_named parts) ≡ false → lookup (same_name x) (list ++ part_names first place parts) ≡ None
other_free (e ∷ es) x first place parts none other =
    elim (same_name x e.0) as (λ b. cond b (Some e.1) (lookup (same_name x) es) ≡ None → cond b (Some e.1) (lookup (same_name x) (es ++ part_names first place parts)) ≡ None) [
      | true ↦ λ h. absurd cc
      | false ↦ λ h. other_free es x first place parts h other
    ] none
other_free [] x first place [] none other = refl
other_free [] x first place (p ∷ ps) none other =
    elim (same_name x (named p)) as (λ b. (b || list_any (same_name x) (all_named ps)) ≡ false → cond b (Some (holds.Part (first + place) place)) (lookup (same_name x) (part_names first (place + 1) ps)) ≡ None) [
      | true ↦ λ h. absurd cc
      | false ↦ λ h. other_free [] x first (place + 1) ps refl h
    ] other

-- ---- whether no two names are equal, name by name

pub differ_next : (seen new : Entries) (parts : List (Option (List ℕ))) (place : ℕ) (part : Option (List ℕ)) (h : Holder) → front_at part parts place → is_some (lookup (same_name (named part)) seen) ≡ false → new ≡ seen ++ (named part, h) ∷ []
    → are_free new (all_named (drop (place + 1) parts)) ≡ are_free seen (all_named (drop place parts))
differ_next seen new parts place part h at absent is =
    let rest = all_named (drop (place + 1) parts) in
    let none : lookup (same_name (named part)) seen ≡ None = elim (lookup (same_name (named part)) seen) as (λ o. is_some o ≡ false → o ≡ None) [ None ↦ λ e. refl | Some v ↦ λ e. absurd cc ] absent in
    ap (λ (l : Entries). are_free l rest) is ∙ sym (free_step seen (named part) rest h none) ∙ ap (λ (l : List (Option (List ℕ))). are_free seen (all_named l)) (sym at)

pub differ_not : (seen : Entries) (parts : List (Option (List ℕ))) (place : ℕ) (part : Option (List ℕ)) → front_at part parts place → is_some (lookup (same_name (named part)) seen) ≡ true → are_free seen (all_named (drop place parts)) ≡ false
differ_not seen parts place part at there = ap (λ (l : List (Option (List ℕ))). are_free seen (all_named l)) at ∙ not_free seen (named part) (all_named (drop (place + 1) parts)) there

pub differ_all : (seen : Entries) (parts : List (Option (List ℕ))) (place : ℕ) → length parts ≤ place → are_free seen (all_named (drop place parts)) ≡ true
differ_all seen parts place end = ap (λ (l : List (Option (List ℕ))). are_free seen (all_named l)) (drop_all place parts end)

-- ---- a super stream that the rules don't refuse

pub record Passes (name : Option (List ℕ)) (parts keys : List (Option (List ℕ))) (names : Names) : Type 0 where
  pub name_is : is_name name ≡ true
  pub parts_are : list_all is_name parts ≡ true
  pub right : are_parts name parts keys ≡ true
  pub free : list_any (is_taken names) (name ∷ parts) ≡ false

pub both : (a b : Bool) → (a && b) ≡ true → (a ≡ true) × (b ≡ true)
both true b h = (refl, h)
both false b h = absurd cc

pub passes : (name : Option (List ℕ)) (parts keys : List (Option (List ℕ))) (names : Names) → is_none (super_refused name parts keys names) ≡ true → Passes name parts keys names
passes name parts keys names none =
    let named_all = is_name name && list_all is_name parts in
    let right = are_parts name parts keys in
    let taken = list_any (is_taken names) (name ∷ parts) in
    let all : (named_all ≡ true) × (right ≡ true) × (taken ≡ false) =
    elim named_all as (λ a. is_none (if not a then Some (Refused why.Name) else if not right then Some (Refused why.Parts) else if taken then Some Exists else None) ≡ true → (a ≡ true) × (right ≡ true) × (taken ≡ false)) [
      | false ↦ λ h. absurd cc
      | true ↦ elim right as (λ b. is_none (if not b then Some (Refused why.Parts) else if taken then Some Exists else None) ≡ true → (true ≡ true) × (b ≡ true) × (taken ≡ false)) [
        | false ↦ λ h. absurd cc
        | true ↦ elim taken as (λ t. is_none (if t then Some Exists else None) ≡ true → (true ≡ true) × (true ≡ true) × (t ≡ false)) [
          | true ↦ λ h. absurd cc
          | false ↦ λ h. (refl, refl, refl)
        ]
      ]
    ] none in
    let names_are = both (is_name name) (list_all is_name parts) all.0 in
    record { name_is = names_are.0; parts_are = names_are.1; right = all.1; free = all.2 }

either_not : (a b : Bool) → (a || b) ≡ false → (a ≡ false) × (b ≡ false)
either_not true b h = absurd cc
either_not false b h = (refl, h)

-- a name that isn't taken stands for nothing
pub untaken : (text : Option (List ℕ)) (names : Names) → is_name text ≡ true → is_taken names text ≡ false → holder_of (named text) names ≡ None
untaken None names is free = absurd cc
untaken (Some name) names is free = elim (holder_of name names) as (λ o. is_some o ≡ false → o ≡ None) [ None ↦ λ h. refl | Some v ↦ λ h. absurd cc ] free

none_held : (texts : List (Option (List ℕ))) (names : Names) → list_all is_name texts ≡ true → list_any (is_taken names) texts ≡ false → list_all (λ name. is_none (lookup (same_name name) names.list)) (all_named texts) ≡ true
none_held [] names are free = refl
none_held (t ∷ ts) names are free =
    let is = both (is_name t) (list_all is_name ts) are in
    let not_taken = either_not (is_taken names t) (list_any (is_taken names) ts) free in
    ap (λ (o : Option Holder). is_none o && list_all (λ name. is_none (lookup (same_name name) names.list)) (all_named ts)) (untaken t names is.0 not_taken.0) ∙ none_held ts names is.1 not_taken.1

and_all : (a b : Bool) → a ≡ true → b ≡ true → (a && b) ≡ true
and_all true b h k = k
and_all false b h k = absurd cc

-- no two of the names are equal
pub differs : (name : Option (List ℕ)) (parts keys : List (Option (List ℕ))) → are_parts name parts keys ≡ true → all_differ (all_named (name ∷ parts)) ≡ true
differs name parts keys right = grind arith

pub parts_free : (name : Option (List ℕ)) (parts keys : List (Option (List ℕ))) (names : Names) → Passes name parts keys names → are_free names.list (all_named parts) ≡ true
parts_free name parts keys names p =
    let others = either_not (is_taken names name) (list_any (is_taken names) parts) p.free in
    let apart_all = both (not (list_any (same_name (named name)) (all_named parts))) (all_differ (all_named parts)) (differs name parts keys p.right) in
    and_all _ _ (none_held parts names p.parts_are others.1) apart_all.1

pub comes_free : (c : Change) (names : Names) → c.kind ≡ CreateSuper → fits c names ≡ true → are_free names.list (all_named c.parts) ≡ true
comes_free c names is fit =
    let fit_as : fits_as CreateSuper c names ≡ true = ap (λ (k : ChangeKind). fits_as k c names) (sym is) ∙ fit in
    parts_free c.name c.parts c.keys names (passes c.name c.parts c.keys names (both (is_none (super_refused c.name c.parts c.keys names)) (are_new c.number (length c.parts) names) fit_as).0)
