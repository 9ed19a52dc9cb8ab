-- The numbers of streams rise, whatever changes come.
use Rattle.std.proofs.Common.{◌≡◌, ℕ, ◌+◌, ◌-◌, ◌<◌, ◌≤◌, ◌==◌, Bool, true, false, cond, not, List, [], ◌∷◌, ◌++◌, length, map, filter, drop, take, get_or, Option, Some, None, is_none, refl, sym, ap, subst, ◌∙◌, arith}
use Rattle.std.specs.List.{flat_map, HoldsAt}
use Rattle.std.specs.Map.{lookup}
use Rattle.std.proofs.lemmas.Grind.{flat_map-append}
use Rattle.std.proofs.lemmas.List.{append-nil, append_assoc, drop_more}
use Rattle.std.proofs.Math.Seq.{take-append_seam}
use Rattle.stream_catalog.specs.declared.holder.Holder.{Holder}
use Rattle.stream_catalog.specs.declared.holder.Holder.TheVariants as holds
use Rattle.stream_catalog.specs.declared.change.Change.{Change}
use Rattle.stream_catalog.specs.declared.change.ChangeKind.{ChangeKind}
use Rattle.stream_catalog.specs.declared.change.ChangeKind.TheVariants.{Create, Delete, CreateSuper, DeleteSuper}
use Rattle.stream_catalog.specs.Names.{Names, numbered, live, streams}
use Rattle.stream_catalog.specs.Rules.{named, holder_at, count_of, is_among, without, part_names, changed, changed_by, create_refused, super_refused, are_parts}
use Rattle.stream_catalog.specs.Files.{fits, fits_as, are_new}
use Rattle.stream_catalog.specs.Adding.{Rising, AreNumbered, HasNewNumber, IsFront, Comes, Goes}
use Rattle.stream_catalog.proofs.Fresh.{Entries, both, passes}

abbrev pub Pairs : Type 0
Pairs = List (ℕ × ℕ)

abbrev pub flat : Entries → Pairs
flat list = flat_map (λ e. numbered e.1) list

abbrev pub firsts : Pairs → List ℕ
firsts ps = map (λ p. p.0) ps

-- ---- rising numbers

pub rising_from : (a low high : ℕ) (ns : List ℕ) → a ≤ low → Rising low ns high → Rising a ns high
rising_from a low high [] le r = omega (arith, le, r)
rising_from a low high (n ∷ ns) le r = (omega (arith, le, r.0), r.1)

pub rising_end : (low mid high : ℕ) (xs ys : List ℕ) → Rising low xs mid → Rising (mid + 1) ys high → Rising low (xs ++ ys) high
rising_end low mid high [] ys r s = rising_from low (mid + 1) high ys r s
rising_end low mid high (x ∷ xs) ys r s = (r.0, rising_end (x + 1) mid high xs ys r.1 s)

pub rising_filter : (test : ℕ → Bool) (low high : ℕ) (ns : List ℕ) → Rising low ns high → Rising low (filter test ns) high
rising_filter test low high [] r = r
rising_filter test low high (n ∷ ns) r =
    let rest = rising_filter test (n + 1) high ns r.1 in
    elim (test n) as (λ b. Rising low (cond b (n ∷ filter test ns) (filter test ns)) high) [
      | true ↦ (r.0, rest)
      | false ↦ rising_from low (n + 1) high (filter test ns) (omega (arith, r.0)) rest
    ]

rising_least : (low high n p : ℕ) (xs ys : Pairs) → Rising low (firsts (xs ++ (n, p) ∷ ys)) high → low ≤ n
rising_least low high n p [] ys r = r.0
rising_least low high n p (x ∷ xs) ys r = let more = rising_least (x.0 + 1) high n p xs ys r.1 in omega (arith, r.0, more)

above_is_other : (n m : ℕ) → m + 1 ≤ n → (n == m) ≡ false
above_is_other n m lt = grind arith

-- a number of rising ones isn't among those before it
pub rising_absent : (low high n p : ℕ) (xs ys : Pairs) → Rising low (firsts (xs ++ (n, p) ∷ ys)) high → lookup (λ m. n == m) xs ≡ None
rising_absent low high n p [] ys r = refl
rising_absent low high n p (x ∷ xs) ys r =
    ap (λ (b : Bool). cond b (Some x.1) (lookup (λ m. n == m) xs)) (above_is_other n x.0 (rising_least (x.0 + 1) high n p xs ys r.1)) ∙ rising_absent (x.0 + 1) high n p xs ys r.1

-- ---- one name after the other

pub live_step : (list : Entries) (i : ℕ) (h : Holder) (now new all : Pairs) → i < length list → HoldsAt (λ e. e.1 ≡ h) list i → now ++ flat (drop i list) ≡ all → new ≡ now ++ numbered h → new ++ flat (drop (i + 1) list) ≡ all
live_step list i h now new all lt at is more =
    let d : List ℕ × Holder = ([], h) in
    let here : numbered (get_or list i d).1 ≡ numbered h = ap numbered (at d) in
    let rest = flat (drop (i + 1) list) in
    ap (λ (l : Pairs). l ++ rest) more ∙ append_assoc now (numbered h) rest
    ∙ ap (λ (l : Pairs). now ++ (l ++ rest)) (sym here) ∙ ap (λ (l : Entries). now ++ flat l) (sym (drop_more list i d lt)) ∙ is

pub live_free : (names : Names) (i : ℕ) (h : Holder) (now : Pairs) → AreNumbered names → i < length names.list → HoldsAt (λ e. e.1 ≡ h) names.list i → now ++ flat (drop i names.list) ≡ live names → HasNewNumber h now
live_free names i h now rising lt at is number place one =
    let rest = flat (drop (i + 1) names.list) in
    let all : now ++ (number, place) ∷ rest ≡ live names =
    ap (λ (l : Pairs). now ++ (l ++ rest)) (sym one) ∙ sym (append_assoc now (numbered h) rest) ∙ live_step names.list i h now (now ++ numbered h) (live names) lt at is refl in
    rising_absent 1 names.last number place now rest (subst (λ (l : Pairs). Rising 1 (firsts l) names.last) (sym all) rising)

-- ---- what changes make of the numbers

pub firsts_filter : (test : ℕ → Bool) (ps : Pairs) → firsts (filter (λ p. test p.0) ps) ≡ filter test (firsts ps)
firsts_filter test [] = refl
firsts_filter test (p ∷ ps) =
    elim (test p.0) as (λ b. firsts (cond b (p ∷ filter (λ (p : ℕ × ℕ). test p.0) ps) (filter (λ p. test p.0) ps)) ≡ cond b (p.0 ∷ filter test (firsts ps)) (filter test (firsts ps))) [
      | true ↦ ap (λ (l : List ℕ). p.0 ∷ l) (firsts_filter test ps)
      | false ↦ firsts_filter test ps
    ]

keep_one : (b : Bool) (p : ℕ × ℕ) (xs ys : Pairs) → xs ≡ ys → cond b (p ∷ xs) xs ≡ cond b (p ∷ ys) ys
keep_one true p xs ys e = ap (λ (l : Pairs). p ∷ l) e
keep_one false p xs ys e = e

kept_one : (b : Bool) (n p : ℕ) (e : List ℕ × Holder) (es : Entries) → numbered e.1 ≡ (n, p) ∷ [] → flat (cond b (e ∷ es) es) ≡ cond b ((n, p) ∷ flat es) (flat es)
kept_one true n p e es is = ap (λ (l : Pairs). l ++ flat es) is
kept_one false n p e es is = refl

kept_none : (b : Bool) (e : List ℕ × Holder) (es : Entries) → numbered e.1 ≡ [] → flat (cond b (e ∷ es) es) ≡ flat es
kept_none true e es is = ap (λ (l : Pairs). l ++ flat es) is
kept_none false e es is = refl

pub live_without : (first count : ℕ) (list : Entries) → flat (without first count list) ≡ filter (λ p. not (is_among first count p.0)) (flat list)
live_without first count [] = refl
live_without first count ((name, holds.Stream n) ∷ es) =
    kept_one (not (is_among first count n)) n 0 (name, holds.Stream n) (without first count es) refl ∙ keep_one (not (is_among first count n)) (n, 0) _ _ (live_without first count es)
live_without first count ((name, holds.Part n p) ∷ es) =
    kept_one (not (is_among first count n)) n p (name, holds.Part n p) (without first count es) refl ∙ keep_one (not (is_among first count n)) (n, p) _ _ (live_without first count es)
live_without first count ((name, holds.Super n parts keys) ∷ es) =
    kept_none (not (is_among first count n)) (name, holds.Super n parts keys) (without first count es) refl ∙ live_without first count es

pub numbers_without_rise : (first count : ℕ) (names : Names) → AreNumbered names → AreNumbered (record { list = without first count names.list; last = names.last })
numbers_without_rise first count names rising =
    let test : ℕ → Bool = λ n. not (is_among first count n) in
    subst (λ (l : List ℕ). Rising 1 l names.last) (sym (ap firsts (live_without first count names.list) ∙ firsts_filter test (live names))) (rising_filter test 1 names.last (streams names) rising)

-- the numbers of partitions
part_numbers : (first place high : ℕ) (parts : List (Option (List ℕ))) → high + 1 ≡ first + place + length parts → Rising (first + place) (firsts (flat (part_names first place parts))) high
part_numbers first place high [] is = omega (arith, is)
part_numbers first place high (p ∷ ps) is =
    let e : first + (place + 1) ≡ first + place + 1 = omega arith in
    let rest = part_numbers first (place + 1) high ps (omega (arith, is)) in
    (omega arith, subst (λ (n : ℕ). Rising n (firsts (flat (part_names first (place + 1) ps))) high) e rest)

pub firsts_append : (xs ys : Pairs) → firsts (xs ++ ys) ≡ firsts xs ++ firsts ys
firsts_append [] ys = refl
firsts_append (x ∷ xs) ys = ap (λ (l : List ℕ). x.0 ∷ l) (firsts_append xs ys)

pub flat_append : (xs ys : Entries) → flat (xs ++ ys) ≡ flat xs ++ flat ys
flat_append xs ys = flat_map-append (λ (e : List ℕ × Holder). numbered e.1) xs ys

pub streams_append : (xs ys : Entries) → firsts (flat (xs ++ ys)) ≡ firsts (flat xs) ++ firsts (flat ys)
streams_append xs ys = ap firsts (flat_append xs ys) ∙ firsts_append (flat xs) (flat ys)

above_last : (number count : ℕ) (names : Names) → are_new number count names ≡ true → names.last < number
above_last number count names new = grind arith

some_parts : (name : Option (List ℕ)) (parts keys : List (Option (List ℕ))) → are_parts name parts keys ≡ true → 0 < length parts
some_parts name parts keys right = grind arith

numbered_create : (c : Change) (names : Names) → fits_as Create c names ≡ true → AreNumbered names → AreNumbered (changed_by Create c names)
numbered_create c names fit rising =
    let above = above_last c.number 1 names (both (is_none (create_refused c.name names)) (are_new c.number 1 names) fit).1 in
    let one : Rising (names.last + 1) (c.number ∷ []) c.number = (omega (arith, above), omega arith) in
    subst (λ (l : List ℕ). Rising 1 l c.number) (sym (streams_append names.list ((named c.name, holds.Stream c.number) ∷ []))) (rising_end 1 names.last c.number (streams names) (c.number ∷ []) rising one)

numbered_super : (c : Change) (names : Names) → fits_as CreateSuper c names ≡ true → AreNumbered names → AreNumbered (changed_by CreateSuper c names)
numbered_super c names fit rising =
    let parted = both (is_none (super_refused c.name c.parts c.keys names)) (are_new c.number (length c.parts) names) fit in
    let above = above_last c.number (length c.parts) names parted.1 in
    let some = some_parts c.name c.parts c.keys (passes c.name c.parts c.keys names parted.0).right in
    let high = c.number + length c.parts - 1 in
    let parts : Entries = part_names c.number 0 c.parts in
    let own : Entries = (named c.name, holds.Super c.number c.parts c.keys) ∷ [] in
    let consecutive : Rising (c.number + 0) (firsts (flat parts)) high = part_numbers c.number 0 high c.parts (omega (arith, some)) in
    let past : Rising (names.last + 1) (firsts (flat parts)) high = rising_from (names.last + 1) (c.number + 0) high (firsts (flat parts)) (omega (arith, above)) consecutive in
    let is : firsts (flat ((names.list ++ parts) ++ own)) ≡ streams names ++ firsts (flat parts) = streams_append (names.list ++ parts) own ∙ append-nil (firsts (flat (names.list ++ parts))) ∙ streams_append names.list parts in
    subst (λ (l : List ℕ). Rising 1 l high) (sym is) (rising_end 1 names.last high (streams names) (firsts (flat parts)) rising past)

pub numbered_by : (k : ChangeKind) (c : Change) (names : Names) → fits_as k c names ≡ true → AreNumbered names → AreNumbered (changed_by k c names)
numbered_by Create c names fit rising = numbered_create c names fit rising
numbered_by CreateSuper c names fit rising = numbered_super c names fit rising
numbered_by Delete c names fit rising = numbers_without_rise c.number (count_of (holder_at c.name names)) names rising
numbered_by DeleteSuper c names fit rising = numbers_without_rise c.number (count_of (holder_at c.name names)) names rising

-- a change that fits leaves numbers that rise
pub numbered_changed : (c : Change) (names : Names) → fits c names ≡ true → AreNumbered names → AreNumbered (changed c names)
numbered_changed c names fit rising = numbered_by c.kind c names fit rising

-- ---- names with others behind them

pub front_by : (k : ChangeKind) (c : Change) (names : Names) → Comes k → AreNumbered names → IsFront names (changed_by k c names)
front_by Create c names comes rising = record { numbered = rising; more = (named c.name, holds.Stream c.number) ∷ []; list = refl }
front_by CreateSuper c names comes rising = record { numbered = rising; more = part_names c.number 0 c.parts ++ (named c.name, holds.Super c.number c.parts c.keys) ∷ []; list = append_assoc names.list (part_names c.number 0 c.parts) ((named c.name, holds.Super c.number c.parts c.keys) ∷ []) }
front_by Delete c names comes rising = absurd comes
front_by DeleteSuper c names comes rising = absurd comes

pub front_list : (front names : Names) → IsFront front names → take (length front.list) names.list ≡ front.list
front_list front names f = ap (take (length front.list)) f.list ∙ take-append_seam front.list f.more

pub front_live : (front names : Names) → IsFront front names → take (length (live front)) (live names) ≡ live front
front_live front names f = ap (λ (l : Entries). take (length (live front)) (flat l)) f.list ∙ ap (take (length (live front))) (flat_append front.list f.more) ∙ take-append_seam (live front) (flat f.more)

-- ---- the same for names in hand

pub added : (c : Change) (old inside new : Names) → inside ≡ old → AreNumbered inside → fits c old ≡ true → new ≡ changed c inside → AreNumbered new
added c old inside new same rising fit is = subst AreNumbered (sym is) (numbered_changed c inside (subst (λ (n : Names). fits c n ≡ true) (sym same) fit) rising)

pub fronts : (c : Change) (old inside new : Names) → inside ≡ old → AreNumbered inside → Comes c.kind → new ≡ changed c inside → IsFront old new
fronts c old inside new same rising comes is =
    subst (λ (n : Names). IsFront n new) same (subst (IsFront inside) (sym is) (front_by c.kind c inside comes rising))

gone_by : (k : ChangeKind) (c : Change) (names : Names) → Goes k → changed_by k c names ≡ record { list = without c.number (count_of (holder_at c.name names)) names.list; last = names.last }
gone_by Create c names goes = absurd goes
gone_by CreateSuper c names goes = absurd goes
gone_by Delete c names goes = refl
gone_by DeleteSuper c names goes = refl

pub taken : (c : Change) (inside new : Names) (before after : Pairs) (count : ℕ) → Goes c.kind → AreNumbered inside → before ≡ live inside → new ≡ changed c inside → count ≡ count_of (holder_at c.name inside)
    → after ≡ filter (λ p. not (is_among c.number count p.0)) before → (after ≡ live new) × AreNumbered new
taken c inside new before after count goes rising was is count_is filtered =
    let gone : new ≡ record { list = without c.number (count_of (holder_at c.name inside)) inside.list; last = inside.last } = is ∙ gone_by c.kind c inside goes in
    let rest : filter (λ p. not (is_among c.number count p.0)) before ≡ flat (without c.number (count_of (holder_at c.name inside)) inside.list) =
    ap (λ (l : Pairs). filter (λ p. not (is_among c.number count p.0)) l) was
    ∙ ap (λ (k : ℕ). filter (λ p. not (is_among c.number k p.0)) (live inside)) count_is
    ∙ sym (live_without c.number (count_of (holder_at c.name inside)) inside.list) in
    (filtered ∙ rest ∙ sym (ap live gone), subst AreNumbered (sym gone) (numbers_without_rise c.number (count_of (holder_at c.name inside)) inside rising))
