-- Numbers that are given rise, and one that went comes no more.
use Rattle.std.proofs.Common.{◌≡◌, ℕ, ◌+◌, ◌-◌, ◌<◌, ◌≤◌, ◌==◌, Bool, true, false, cond, not, List, [], ◌∷◌, ◌++◌, length, Option, Some, None, is_none, is_some, refl, sym, ap, subst, ◌∙◌, arith}
use Rattle.std.specs.Map.{lookup}
use Rattle.stream_catalog.specs.declared.holder.Holder.TheVariants as holds
use Rattle.stream_catalog.specs.declared.change.Change.{Change}
use Rattle.stream_catalog.specs.declared.change.ChangeKind.{ChangeKind}
use Rattle.stream_catalog.specs.declared.change.ChangeKind.TheVariants.{Create, Delete, CreateSuper, DeleteSuper}
use Rattle.stream_catalog.specs.Names.{Names, live, is_live}
use Rattle.stream_catalog.specs.Rules.{named, holder_at, count_of, is_among, without, part_names, changed, changed_by, create_refused, super_refused, are_parts}
use Rattle.stream_catalog.specs.Files.{fits_as, are_new}
use Rattle.stream_catalog.specs.Adding.{Rising}
use Rattle.stream_catalog.proofs.Fresh.{Entries, both, passes}
use Rattle.stream_catalog.proofs.Numbers.{Pairs, flat, flat_append, live_without, rising_end, rising_from}
use Rattle.catalog_laws.specs.Changing.{FitAll, after_all, all_given, given_by, numbers_from}
use Rattle.catalog_laws.proofs.Lookups.{none_append, none_filter}

-- ---- what a change that fits says of its numbers

above_last : (number count : ℕ) (names : Names) → are_new number count names ≡ true → names.last < number
above_last number count names new = grind arith

some_parts : (name : Option (List ℕ)) (parts keys : List (Option (List ℕ))) → are_parts name parts keys ≡ true → 0 < length parts
some_parts name parts keys right = grind arith

-- a super stream that fits: its numbers are above the last, and it has partitions
record Above (c : Change) (names : Names) : Type 0 where
  pub above : names.last < c.number
  pub some : 0 < length c.parts

super_above : (c : Change) (names : Names) → fits_as CreateSuper c names ≡ true → Above c names
super_above c names fit =
    let parted = both (is_none (super_refused c.name c.parts c.keys names)) (are_new c.number (length c.parts) names) fit in
    record {
      above = above_last c.number (length c.parts) names parted.1;
      some = some_parts c.name c.parts c.keys (passes c.name c.parts c.keys names parted.0).right;
    }

create_above : (c : Change) (names : Names) → fits_as Create c names ≡ true → names.last < c.number
create_above c names fit = above_last c.number 1 names (both (is_none (create_refused c.name names)) (are_new c.number 1 names) fit).1

last_grows : (k : ChangeKind) (c : Change) (names : Names) → fits_as k c names ≡ true → names.last ≤ (changed_by k c names).last
last_grows Create c names fit = omega (arith, create_above c names fit)
last_grows CreateSuper c names fit = let a = super_above c names fit in omega (arith, a.above, a.some)
last_grows Delete c names fit = omega arith
last_grows DeleteSuper c names fit = omega arith

-- ---- the numbers that are given

numbers_rise : (n high : ℕ) (parts : List (Option (List ℕ))) → high + 1 ≡ n + length parts → Rising n (numbers_from n parts) high
numbers_rise n high [] is = omega (arith, is)
numbers_rise n high (p ∷ ps) is = (omega arith, numbers_rise (n + 1) high ps (omega (arith, is)))

given_rise : (k : ChangeKind) (c : Change) (names : Names) → fits_as k c names ≡ true → Rising (names.last + 1) (given_by k c) (changed_by k c names).last
given_rise Create c names fit = (omega (arith, create_above c names fit), omega arith)
given_rise CreateSuper c names fit =
    let a = super_above c names fit in
    let high = c.number + length c.parts - 1 in
    rising_from (names.last + 1) c.number high (numbers_from c.number c.parts) (omega (arith, a.above)) (numbers_rise c.number high c.parts (omega (arith, a.some)))
given_rise Delete c names fit = omega arith
given_rise DeleteSuper c names fit = omega arith

pub all_rise : (names : Names) (changes : List Change) → FitAll changes names → Rising (names.last + 1) (all_given changes) (after_all changes names).last
all_rise names [] fit = omega arith
all_rise names (c ∷ changes) fit =
    rising_end (names.last + 1) (changed c names).last (after_all changes (changed c names)).last (given_by c.kind c) (all_given changes) (given_rise c.kind c names fit.0) (all_rise (changed c names) changes fit.1)

-- ---- a number that is not live

abbrev Absent : ℕ → Pairs → Type 0
Absent number ps = lookup (λ n. number == n) ps ≡ None

is_below : (number n : ℕ) → number < n → (number == n) ≡ false
is_below number n lt = grind arith

parts_absent : (number first place : ℕ) (parts : List (Option (List ℕ))) → number < first → Absent number (flat (part_names first place parts))
parts_absent number first place [] lt = refl
parts_absent number first place (p ∷ ps) lt =
    ap (λ (b : Bool). cond b (Some place) (lookup (λ n. number == n) (flat (part_names first (place + 1) ps)))) (is_below number (first + place) (omega (arith, lt)))
    ∙ parts_absent number first (place + 1) ps lt

one_absent : (number n : ℕ) → number < n → Absent number ((n, 0) ∷ [])
one_absent number n lt = ap (λ (b : Bool). cond b (Some 0) (lookup {X = ℕ} (λ (m : ℕ). number == m) [])) (is_below number n lt)

more_absent : (number : ℕ) (list more : Entries) → Absent number (flat list) → Absent number (flat more) → Absent number (flat (list ++ more))
more_absent number list more none none_more = subst (λ (l : Pairs). Absent number l) (sym (flat_append list more)) (none_append (λ (n : ℕ). number == n) (flat list) (flat more) none none_more)

less_absent : (number first count : ℕ) (list : Entries) → Absent number (flat list) → Absent number (flat (without first count list))
less_absent number first count list none =
    subst (λ (l : Pairs). Absent number l) (sym (live_without first count list)) (none_filter (λ (n : ℕ). number == n) (λ (p : ℕ × ℕ). not (is_among first count p.0)) (flat list) none)

stays_absent : (k : ChangeKind) (c : Change) (names : Names) (number : ℕ) → fits_as k c names ≡ true → number ≤ names.last → Absent number (live names) → Absent number (live (changed_by k c names))
stays_absent Create c names number fit le none =
    more_absent number names.list ((named c.name, holds.Stream c.number) ∷ []) none (one_absent number c.number (omega (arith, le, create_above c names fit)))
stays_absent CreateSuper c names number fit le none =
    let parts : Entries = part_names c.number 0 c.parts in
    let own : Entries = (named c.name, holds.Super c.number c.parts c.keys) ∷ [] in
    let lt : number < c.number = omega (arith, le, (super_above c names fit).above) in
    more_absent number (names.list ++ parts) own (more_absent number names.list parts none (parts_absent number c.number 0 c.parts lt)) refl
stays_absent Delete c names number fit le none = less_absent number c.number (count_of (holder_at c.name names)) names.list none
stays_absent DeleteSuper c names number fit le none = less_absent number c.number (count_of (holder_at c.name names)) names.list none

absent_all : (names : Names) (changes : List Change) (number : ℕ) → FitAll changes names → number ≤ names.last → Absent number (live names) → Absent number (live (after_all changes names))
absent_all names [] number fit le none = none
absent_all names (c ∷ changes) number fit le none =
    absent_all (changed c names) changes number fit.1 (omega (arith, le, last_grows c.kind c names fit.0)) (stays_absent c.kind c names number fit.0 le none)

is_absent : (found : Option ℕ) → is_some found ≡ false → found ≡ None
is_absent None h = refl
is_absent (Some n) h = absurd cc

pub gone_all : (names : Names) (changes : List Change) (number : ℕ) → FitAll changes names → number ≤ names.last → is_live number names ≡ false → is_live number (after_all changes names) ≡ false
gone_all names changes number fit le none =
    ap (λ (o : Option ℕ). is_some o) (absent_all names changes number fit le (is_absent (lookup (λ n. number == n) (live names)) none))
