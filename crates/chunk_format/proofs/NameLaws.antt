-- What is said by name of two parts of a list of chunks, and of a beginning.
use Rattle.std.proofs.Common.{◌≡◌, ℕ, ltb, zero, suc, ◌+◌, ◌≤◌, ◌<◌, max, Bool, true, false, cond, not, ◌||◌, filter, List, [], ◌∷◌, ◌++◌, get_or, Option, Some, None, refl, sym, ap, ◌∙◌, subst, arith}
use Rattle.std.specs.Bool.{Decides}
use Rattle.std.specs.List.{fold, reduce, last_or, list_any, flat_map, AllByRecursion, All}
use Rattle.std.specs.List.Sorted.{IsStrictlyIncreasing}
use Rattle.std.specs.Option.{option_or}
use Rattle.std.specs.Cmp.Lexicographic.{bytes_decides}
use Rattle.std.proofs.lemmas.Grind.{flat_map-append}
use Rattle.std.proofs.lemmas.List.{append-nil}
use Rattle.std.proofs.lemmas.Bool.{ltb-true}
use Rattle.std.proofs.lemmas.List.Elements.{filter-append, recursion_from_All}
use Rattle.std.proofs.lemmas.List.Kept.{AllPairs-from_increasing}
use Rattle.chunk_format.specs.declared.chunk.Chunk.{Chunk}
use Rattle.chunk_format.specs.LogRows.{LogRow, Rows, chunk_rows}
use Rattle.chunk_format.specs.ByName.{same_name, first_seen, id_by, ids_of, Greatest, AtMost, greater, RisesIn, tag_name, tag_names, chunk_deltas, deltas_of, offset_by, offsets_of, LastStored, stored_name, stored_names}

-- ---- names

pub same_decides : (a b : List ℕ) → Decides (same_name a b) (a ≡ b)
same_decides a b = bytes_decides a b

pub same_self : (a : List ℕ) → same_name a a ≡ true
same_self a = (same_decides a a).1 refl

not_same : (x y : List ℕ) → same_name x y ≡ false → same_name y x ≡ false
not_same x y e =
    elim (same_name y x) as (λ b. same_name y x ≡ b → b ≡ false) [
      | true ↦ λ f. let both : true ≡ false = sym ((same_decides x y).1 (sym ((same_decides y x).0 f))) ∙ e in absurd cc
      | false ↦ λ f. refl
    ] refl

-- a test that passes a name keeps it
any_filter : (p : List ℕ → Bool) (x : List ℕ) (names : List (List ℕ)) → p x ≡ true → list_any (same_name x) (filter p names) ≡ list_any (same_name x) names
any_filter p x [] passes = refl
any_filter p x (y ∷ ys) passes =
    let more = any_filter p x ys passes in
    elim (p y) as (λ b. p y ≡ b → list_any (same_name x) (cond b (y ∷ filter p ys) (filter p ys)) ≡ (same_name x y || list_any (same_name x) ys)) [
      | true ↦ λ e. ap (λ (b : Bool). same_name x y || b) more
      | false ↦ λ e.
          elim (same_name x y) as (λ b. same_name x y ≡ b → list_any (same_name x) (filter p ys) ≡ (b || list_any (same_name x) ys)) [
            | true ↦ λ f.
                let is : x ≡ y = (same_decides x y).0 f in
                let both : true ≡ false = sym passes ∙ ap p is ∙ e in
                absurd cc
            | false ↦ λ f. more
          ] refl
    ] refl

-- the names stay the same when each stands once
pub seen_same : (x : List ℕ) (names : List (List ℕ)) → list_any (same_name x) (first_seen names) ≡ list_any (same_name x) names
seen_same x [] = refl
seen_same x (y ∷ ys) =
    elim (same_name x y) as (λ b. same_name x y ≡ b → (b || list_any (same_name x) (filter (λ z. not (same_name y z)) (first_seen ys))) ≡ (b || list_any (same_name x) ys)) [
      | true ↦ λ e. refl
      | false ↦ λ e. any_filter (λ z. not (same_name y z)) x (first_seen ys) (ap not (not_same x y e)) ∙ seen_same x ys
    ] refl

push_by : (x y : List ℕ) (names : List (List ℕ)) (b : Bool) → list_any (same_name x) names ≡ b
    → y ∷ filter (λ z. not (same_name y z)) (cond b names (names ++ x ∷ []))
    ≡ cond (same_name x y || list_any (same_name x) (filter (λ z. not (same_name y z)) names)) (y ∷ filter (λ z. not (same_name y z)) names) (y ∷ (filter (λ z. not (same_name y z)) names ++ x ∷ []))
push_by x y names b among =
    let p : List ℕ → Bool = λ z. not (same_name y z) in
    let kept = filter p names in
    elim (same_name x y) as (λ s. same_name x y ≡ s → y ∷ filter p (cond b names (names ++ x ∷ [])) ≡ cond (s || list_any (same_name x) kept) (y ∷ kept) (y ∷ (kept ++ x ∷ []))) [
      | true ↦ λ e.
          let out : p x ≡ false = ap not ((same_decides y x).1 (sym ((same_decides x y).0 e))) in
          let without : filter p (names ++ x ∷ []) ≡ kept = filter-append p names (x ∷ []) ∙ ap (λ (s : Bool). kept ++ cond s (x ∷ []) []) out ∙ append-nil kept in
          elim b as (λ d. y ∷ filter p (cond d names (names ++ x ∷ [])) ≡ y ∷ kept) [ true ↦ refl | false ↦ ap (λ (l : List (List ℕ)). y ∷ l) without ]
      | false ↦ λ e.
          let inside : p x ≡ true = ap not (not_same x y e) in
          let with : filter p (names ++ x ∷ []) ≡ kept ++ x ∷ [] = filter-append p names (x ∷ []) ∙ ap (λ (s : Bool). kept ++ cond s (x ∷ []) []) inside in
          let still : list_any (same_name x) kept ≡ b = any_filter p x names inside ∙ among in
          elim b as (λ d. list_any (same_name x) kept ≡ d → y ∷ filter p (cond d names (names ++ x ∷ [])) ≡ cond (list_any (same_name x) kept) (y ∷ kept) (y ∷ (kept ++ x ∷ []))) [
            | true ↦ λ f. ap (λ (s : Bool). cond s (y ∷ kept) (y ∷ (kept ++ x ∷ []))) (sym f)
            | false ↦ λ f. ap (λ (l : List (List ℕ)). y ∷ l) with ∙ ap (λ (s : Bool). cond s (y ∷ kept) (y ∷ (kept ++ x ∷ []))) (sym f)
          ] still
    ] refl

-- one name more is behind the others, or among them
pub seen_push : (x : List ℕ) (names : List (List ℕ)) → first_seen (names ++ x ∷ []) ≡ cond (list_any (same_name x) (first_seen names)) (first_seen names) (first_seen names ++ x ∷ [])
seen_push x [] = refl
seen_push x (y ∷ ys) =
    ap (λ (l : List (List ℕ)). y ∷ filter (λ z. not (same_name y z)) l) (seen_push x ys) ∙ push_by x y (first_seen ys) (list_any (same_name x) (first_seen ys)) refl

-- ---- ids

pub rows_join : (a b : List Chunk) → Rows (a ++ b) ≡ Rows a ++ Rows b
rows_join a b = flat_map-append chunk_rows a b

pub ids_join : (name : List ℕ) (a b : List Chunk) → ids_of name (a ++ b) ≡ ids_of name a ++ ids_of name b
ids_join name a b = ap (flat_map (λ (row : LogRow). id_by name row.tag)) (rows_join a b) ∙ flat_map-append (λ (row : LogRow). id_by name row.tag) (Rows a) (Rows b)

pub tag_names_join : (a b : List Chunk) → tag_names (a ++ b) ≡ tag_names a ++ tag_names b
tag_names_join a b = ap (flat_map (λ (row : LogRow). tag_name row.tag)) (rows_join a b) ∙ flat_map-append (λ (row : LogRow). tag_name row.tag) (Rows a) (Rows b)

fold_max : (a b : ℕ) (xs : List ℕ) → fold max (max a b) xs ≡ max a (fold max b xs)
fold_max a b [] = refl
fold_max a b (x ∷ xs) = ap (λ (n : ℕ). fold max n xs) (let e : max (max a b) x ≡ max a (max b x) = omega arith in e) ∙ fold_max a (max b x) xs

fold_join : (n : ℕ) (xs ys : List ℕ) → fold max n (xs ++ ys) ≡ fold max (fold max n xs) ys
fold_join n [] ys = refl
fold_join n (x ∷ xs) ys = fold_join (max n x) xs ys

pub reduce_join : (xs ys : List ℕ) → reduce max (xs ++ ys) ≡ greater (reduce max xs) (reduce max ys)
reduce_join [] ys = refl
reduce_join (x ∷ xs) [] = ap (λ (l : List ℕ). reduce max l) (append-nil (x ∷ xs))
reduce_join (x ∷ xs) (y ∷ ys) = ap Some (fold_join x xs (y ∷ ys) ∙ fold_max (fold max x xs) y ys)

pub greatest_join : (name : List ℕ) (a b : List Chunk) → Greatest name (a ++ b) ≡ greater (Greatest name a) (Greatest name b)
greatest_join name a b = ap (λ (l : List ℕ). reduce max l) (ids_join name a b) ∙ reduce_join (ids_of name a) (ids_of name b)

pub at_most_left : (id : ℕ) (o p : Option ℕ) → AtMost id o → AtMost id (greater o p)
at_most_left id None p h = absurd h
at_most_left id (Some n) None h = h
at_most_left id (Some n) (Some m) h = let le : id ≤ n = h in omega arith

pub at_most_right : (id : ℕ) (o p : Option ℕ) → AtMost id p → AtMost id (greater o p)
at_most_right id None p h = h
at_most_right id (Some n) None h = absurd h
at_most_right id (Some n) (Some m) h = let le : id ≤ m = h in omega arith

-- what is at most the greatest of a beginning is at most that of the whole
pub at_most_grows : (id : ℕ) (name : List ℕ) (a b : List Chunk) → AtMost id (Greatest name a) → AtMost id (Greatest name (a ++ b))
at_most_grows id name a b h = subst (AtMost id) (sym (greatest_join name a b)) (at_most_left id (Greatest name a) (Greatest name b) h)

le_fold : (n : ℕ) (xs : List ℕ) → n ≤ fold max n xs
le_fold n [] = omega arith
le_fold n (x ∷ xs) = let more = le_fold (max n x) xs in omega arith

each_fold : (n : ℕ) (xs : List ℕ) → AllByRecursion (λ id. id ≤ fold max n xs) xs
each_fold n [] = tt
each_fold n (x ∷ xs) = (let more = le_fold (max n x) xs in omega arith, each_fold (max n x) xs)

-- each id of a list is at most its greatest
pub each_at_most : (ids : List ℕ) → AllByRecursion (λ id. AtMost id (reduce max ids)) ids
each_at_most [] = tt
each_at_most (x ∷ xs) = (le_fold x xs, each_fold x xs)

-- ---- rising ids

-- each number is below all behind it
abbrev pub Rises : List ℕ → Type 0
Rises [] = Unit {0}
Rises (x ∷ xs) = AllByRecursion (λ y. x < y) xs × Rises xs

tail_increases : (x : ℕ) (xs : List ℕ) → IsStrictlyIncreasing (x ∷ xs) → IsStrictlyIncreasing xs
tail_increases x xs h k lt =
    let next : suc k + 1 ≡ suc (k + 1) = omega arith in
    subst (λ (n : ℕ). get_or xs k 0 < get_or (x ∷ xs) n 0) next (h (suc k) (omega (arith, lt)))

pub rises_from : (xs : List ℕ) → IsStrictlyIncreasing xs → Rises xs
rises_from [] h = tt
rises_from (x ∷ xs) h =
    let pairs = AllPairs-from_increasing (x ∷ xs) h in
    let above : All (λ y. x < y) xs = λ k d lt. pairs 0 (suc k) d (omega arith) (omega (arith, lt)) in
    (recursion_from_All (λ y. x < y) xs above, rises_from xs (tail_increases x xs h))

pub increases_from : (xs : List ℕ) → Rises xs → IsStrictlyIncreasing xs
increases_from [] r k lt = absurd (omega (arith, lt))
increases_from (x ∷ []) r k lt = absurd (omega (arith, lt))
increases_from (x ∷ y ∷ xs) r zero lt = r.0.0
increases_from (x ∷ y ∷ xs) r (suc k) lt =
    let next : suc (k + 1) ≡ suc k + 1 = omega arith in
    subst (λ (n : ℕ). get_or (y ∷ xs) k 0 < get_or (x ∷ y ∷ xs) n 0) next (increases_from (y ∷ xs) r.1 k (omega (arith, lt)))

each_left : {A : Type 0} (P : A → Type 0) (xs ys : List A) → AllByRecursion P (xs ++ ys) → AllByRecursion P xs
each_left P [] ys h = tt
each_left P (x ∷ xs) ys h = (h.0, each_left P xs ys h.1)

pub each_join : {A : Type 0} (P : A → Type 0) (xs ys : List A) → AllByRecursion P xs → AllByRecursion P ys → AllByRecursion P (xs ++ ys)
each_join P [] ys h k = k
each_join P (x ∷ xs) ys h k = (h.0, each_join P xs ys h.1 k)

pub each_map : {A : Type 0} (P Q : A → Type 0) (h : (x : A) → P x → Q x) (xs : List A) → AllByRecursion P xs → AllByRecursion Q xs
each_map P Q h [] p = tt
each_map P Q h (x ∷ xs) p = (h x p.0, each_map P Q h xs p.1)

pub rises_left : (xs ys : List ℕ) → Rises (xs ++ ys) → Rises xs
rises_left [] ys r = tt
rises_left (x ∷ xs) ys r = (each_left (λ y. x < y) xs ys r.0, rises_left xs ys r.1)

pub rises_right : (xs ys : List ℕ) → Rises (xs ++ ys) → Rises ys
rises_right [] ys r = r
rises_right (x ∷ xs) ys r = rises_right xs ys r.1

-- above each of a list
abbrev pub AboveAll : List ℕ → ℕ → Type 0
AboveAll xs id = AllByRecursion (λ x. x < id) xs

below_each : (x : ℕ) (xs ys : List ℕ) → AllByRecursion (AboveAll (x ∷ xs)) ys → AllByRecursion (λ y. x < y) ys
below_each x xs ys h = each_map (AboveAll (x ∷ xs)) (λ y. x < y) (λ y p. p.0) ys h

pub rises_join : (xs ys : List ℕ) → Rises xs → Rises ys → AllByRecursion (AboveAll xs) ys → Rises (xs ++ ys)
rises_join [] ys r q h = q
rises_join (x ∷ xs) ys r q h =
    (each_join (λ y. x < y) xs ys r.0 (below_each x xs ys h), rises_join xs ys r.1 q (each_map (AboveAll (x ∷ xs)) (AboveAll xs) (λ y p. p.1) ys h))

not_most : (id n : ℕ) → (id ≤ n → ⊥) → n < id
not_most id n k =
    elim (ltb n id) as (λ b. ltb n id ≡ b → n < id) [ true ↦ λ e. ltb-true n id e | false ↦ λ e. absurd (k (grind (arith, e))) ] refl

-- what is not at most the greatest is above each
above_each : (id : ℕ) (o : Option ℕ) (xs : List ℕ) → AllByRecursion (λ x. AtMost x o) xs → (AtMost id o → ⊥) → AllByRecursion (λ x. x < id) xs
above_each id None [] h k = tt
above_each id None (x ∷ xs) h k = absurd h.0
above_each id (Some n) xs h k =
    let high : n < id = not_most id n k in
    each_map (λ x. x ≤ n) (λ x. x < id) (λ x p. omega (arith, p, high)) xs h

pub rises_in_front : (a b : List Chunk) → RisesIn (a ++ b) → RisesIn a
rises_in_front a b r name = increases_from (ids_of name a) (rises_left (ids_of name a) (ids_of name b) (rises_from (ids_of name a ++ ids_of name b) (subst IsStrictlyIncreasing (ids_join name a b) (r name))))

pub rises_in_rest : (a b : List Chunk) → RisesIn (a ++ b) → RisesIn b
rises_in_rest a b r name = increases_from (ids_of name b) (rises_right (ids_of name a) (ids_of name b) (rises_from (ids_of name a ++ ids_of name b) (subst IsStrictlyIncreasing (ids_join name a b) (r name))))

pub rises_in_join : (a b : List Chunk) → RisesIn a → RisesIn b → ((name : List ℕ) → All (λ id. AtMost id (Greatest name a) → ⊥) (ids_of name b)) → RisesIn (a ++ b)
rises_in_join a b r q h name =
    let ids = ids_of name a in
    let more = ids_of name b in
    let above : AllByRecursion (AboveAll ids) more =
    each_map (λ id. AtMost id (Greatest name a) → ⊥) (AboveAll ids) (λ id k. above_each id (Greatest name a) ids (each_at_most ids) k) more (recursion_from_All (λ id. AtMost id (Greatest name a) → ⊥) more (h name)) in
    subst IsStrictlyIncreasing (sym (ids_join name a b)) (increases_from (ids ++ more) (rises_join ids more (rises_from ids (r name)) (rises_from more (q name)) above))

-- ---- stored offsets

pub deltas_join : (a b : List Chunk) → deltas_of (a ++ b) ≡ deltas_of a ++ deltas_of b
deltas_join a b = flat_map-append chunk_deltas a b

pub offsets_join : (name : List ℕ) (a b : List Chunk) → offsets_of name (a ++ b) ≡ offsets_of name a ++ offsets_of name b
offsets_join name a b = ap (flat_map (offset_by name)) (deltas_join a b) ∙ flat_map-append (offset_by name) (deltas_of a) (deltas_of b)

pub stored_names_join : (a b : List Chunk) → stored_names (a ++ b) ≡ stored_names a ++ stored_names b
stored_names_join a b = ap (flat_map stored_name) (deltas_join a b) ∙ flat_map-append stored_name (deltas_of a) (deltas_of b)

last_some : {A : Type 0} (x : A) (o : Option A) (xs : List A) → last_or (Some x) xs ≡ option_or (last_or (Some x) xs) o
last_some x o [] = refl
last_some x o (y ∷ ys) = last_some y o ys

last_after : {A : Type 0} (o : Option A) (xs : List A) → last_or o xs ≡ option_or (last_or None xs) o
last_after o [] = refl
last_after o (x ∷ xs) = last_some x o xs

last_join : {A : Type 0} (o : Option A) (xs ys : List A) → last_or o (xs ++ ys) ≡ last_or (last_or o xs) ys
last_join o [] ys = refl
last_join o (x ∷ xs) ys = last_join (Some x) xs ys

pub stored_join : (name : List ℕ) (a b : List Chunk) → LastStored name (a ++ b) ≡ option_or (LastStored name b) (LastStored name a)
stored_join name a b = ap (λ (l : List ℕ). last_or None l) (offsets_join name a b) ∙ last_join None (offsets_of name a) (offsets_of name b) ∙ last_after (LastStored name a) (offsets_of name b)
