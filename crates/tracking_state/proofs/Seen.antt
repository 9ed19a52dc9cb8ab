-- Names with values, where the names are those first seen.
use Rattle.std.proofs.Common.{◌≡◌, ℕ, Bool, true, false, cond, not, ◌||◌, filter, List, [], ◌∷◌, ◌++◌, map, Some, None, refl, sym, ap, ◌∙◌}
use Rattle.std.specs.List.{list_any, AllByRecursion}
use Rattle.std.proofs.lemmas.List.{append_assoc}
use Rattle.std.proofs.lemmas.List.Folds.{list_any-append}
use Rattle.chunk_format.specs.ByName.{same_name, first_seen}
use Rattle.chunk_format.proofs.NameLaws.{same_decides, same_self, seen_same, seen_push}
use Rattle.tracking_state.specs.Notes.{with_value, value_of}

abbrev pub among : List ℕ → List (List ℕ) → Bool
among name names = list_any (same_name name) names

-- each name is no other of the list
abbrev pub Distinct : List (List ℕ) → Type 0
Distinct [] = Unit {0}
Distinct (x ∷ xs) = (among x xs ≡ false) × Distinct xs

pub same_flip : (x y : List ℕ) → same_name x y ≡ same_name y x
same_flip x y =
    elim (same_name x y) as (λ b. same_name x y ≡ b → b ≡ same_name y x) [
      | true ↦ λ e. sym ((same_decides y x).1 (sym ((same_decides x y).0 e)))
      | false ↦ λ e.
          elim (same_name y x) as (λ d. same_name y x ≡ d → false ≡ d) [
            | true ↦ λ f. let both : true ≡ false = sym ((same_decides x y).1 (sym ((same_decides y x).0 f))) ∙ e in absurd cc
            | false ↦ λ f. refl
          ] refl
    ] refl

none_left : (p : List ℕ → Bool) (x : List ℕ) (names : List (List ℕ)) → among x names ≡ false → among x (filter p names) ≡ false
none_left p x [] e = refl
none_left p x (y ∷ ys) e =
    elim (same_name x y) as (λ s. (s || among x ys) ≡ false → same_name x y ≡ s → among x (cond (p y) (y ∷ filter p ys) (filter p ys)) ≡ false) [
      | true ↦ λ f g. absurd cc
      | false ↦ λ f g.
          let more = none_left p x ys f in
          elim (p y) as (λ b. among x (cond b (y ∷ filter p ys) (filter p ys)) ≡ false) [ true ↦ ap (λ (b : Bool). b || among x (filter p ys)) g ∙ more | false ↦ more ]
    ] e refl

distinct_filter : (p : List ℕ → Bool) (names : List (List ℕ)) → Distinct names → Distinct (filter p names)
distinct_filter p [] d = tt
distinct_filter p (x ∷ xs) d =
    elim (p x) as (λ b. Distinct (cond b (x ∷ filter p xs) (filter p xs))) [ true ↦ (none_left p x xs d.0, distinct_filter p xs d.1) | false ↦ distinct_filter p xs d.1 ]

-- a test that refuses a name leaves it out
left_out : (x : List ℕ) (names : List (List ℕ)) → among x (filter (λ y. not (same_name x y)) names) ≡ false
left_out x [] = refl
left_out x (y ∷ ys) =
    elim (same_name x y) as (λ s. same_name x y ≡ s → among x (cond (not s) (y ∷ filter (λ y. not (same_name x y)) ys) (filter (λ y. not (same_name x y)) ys)) ≡ false) [
      | true ↦ λ e. left_out x ys
      | false ↦ λ e. ap (λ (b : Bool). b || among x (filter (λ y. not (same_name x y)) ys)) e ∙ left_out x ys
    ] refl

pub seen_distinct : (names : List (List ℕ)) → Distinct (first_seen names)
seen_distinct [] = tt
seen_distinct (x ∷ xs) = (left_out x (first_seen xs), distinct_filter (λ y. not (same_name x y)) (first_seen xs) (seen_distinct xs))

-- ---- values of names

abbrev pub with_values : {V : Type 0} → (List ℕ → V) → List (List ℕ) → List (List ℕ × V)
with_values {V} f names = map (λ (name : List ℕ). (name, f name)) names

-- f and g agree but at one name
abbrev pub Elsewhere : {V : Type 0} → List ℕ → (List ℕ → V) → (List ℕ → V) → Type 0
Elsewhere name f g = (other : List ℕ) → same_name name other ≡ false → g other ≡ f other

same_values : {V : Type 0} (name : List ℕ) (f g : List ℕ → V) → Elsewhere name f g → (names : List (List ℕ)) → among name names ≡ false → with_values g names ≡ with_values f names
same_values name f g same [] none = refl
same_values {V} name f g same (x ∷ xs) none =
    elim (same_name name x) as (λ s. (s || among name xs) ≡ false → same_name name x ≡ s → with_values g (x ∷ xs) ≡ with_values f (x ∷ xs)) [
      | true ↦ λ e i. absurd cc
      | false ↦ λ e i.
          ap (λ (v : V). (x, v) ∷ with_values g xs) (same x i) ∙ ap (λ (l : List (List ℕ × V)). (x, f x) ∷ l) (same_values name f g same xs e)
    ] none refl

pub push_by : {V : Type 0} (name : List ℕ) (f g : List ℕ → V) → Elsewhere name f g → (names : List (List ℕ)) → Distinct names
    → with_values g (cond (among name names) names (names ++ name ∷ [])) ≡ with_value name (g name) (with_values f names)
push_by name f g same [] d = refl
push_by {V} name f g same (x ∷ xs) d =
    let rest = with_value name (g name) (with_values f xs) in
    elim (same_name name x) as (λ s. same_name name x ≡ s → with_values g (cond (s || among name xs) (x ∷ xs) (x ∷ (xs ++ name ∷ []))) ≡ cond s ((x, g name) ∷ with_values f xs) ((x, f x) ∷ rest)) [
      | true ↦ λ e.
          let is : name ≡ x = (same_decides name x).0 e in
          let none : among name xs ≡ false = ap (λ (n : List ℕ). among n xs) is ∙ d.0 in
          ap (λ (n : List ℕ). (x, g n) ∷ with_values g xs) (sym is) ∙ ap (λ (l : List (List ℕ × V)). (x, g name) ∷ l) (same_values name f g same xs none)
      | false ↦ λ e.
          let more = push_by name f g same xs d.1 in
          let split : with_values g (cond (among name xs) (x ∷ xs) (x ∷ (xs ++ name ∷ []))) ≡ (x, g x) ∷ with_values g (cond (among name xs) xs (xs ++ name ∷ [])) =
          elim (among name xs) as (λ b. with_values g (cond b (x ∷ xs) (x ∷ (xs ++ name ∷ []))) ≡ (x, g x) ∷ with_values g (cond b xs (xs ++ name ∷ []))) [ true ↦ refl | false ↦ refl ] in
          split ∙ ap (λ (v : V). (x, v) ∷ with_values g (cond (among name xs) xs (xs ++ name ∷ []))) (same x e) ∙ ap (λ (l : List (List ℕ × V)). (x, f x) ∷ l) more
    ] refl

-- one name more, whose value alone may have changed
pub values_push : {V : Type 0} (name : List ℕ) (f g : List ℕ → V) → Elsewhere name f g → (names : List (List ℕ)) → with_values g (first_seen (names ++ name ∷ [])) ≡ with_value name (g name) (with_values f (first_seen names))
values_push name f g same names = ap (with_values g) (seen_push name names) ∙ push_by name f g same (first_seen names) (seen_distinct names)

-- a name that stands there
pub seen_known : (name : List ℕ) (names : List (List ℕ)) → among name names ≡ true → first_seen (names ++ name ∷ []) ≡ first_seen names
seen_known name names known = seen_push name names ∙ ap (λ (b : Bool). cond b (first_seen names) (first_seen names ++ name ∷ [])) (seen_same name names ∙ known)

or_true : (b : Bool) → (b || true) ≡ true
or_true true = refl
or_true false = refl

last_among : (name : List ℕ) (names : List (List ℕ)) → among name (names ++ name ∷ []) ≡ true
last_among name names =
    list_any-append (same_name name) names (name ∷ []) ∙ ap (λ (b : Bool). among name names || (b || false)) (same_self name) ∙ or_true (among name names)

-- the same name again and again
pub seen_again : (name : List ℕ) (names more : List (List ℕ)) → AllByRecursion (λ other. other ≡ name) more → first_seen (names ++ name ∷ more) ≡ first_seen (names ++ name ∷ [])
seen_again name names [] each = refl
seen_again name names (x ∷ more) each =
    let before = names ++ name ∷ [] in
    ap (λ (n : List ℕ). first_seen (names ++ name ∷ n ∷ more)) each.0 ∙ ap first_seen (sym (append_assoc names (name ∷ []) (name ∷ more)))
    ∙ seen_again name before more each.1 ∙ seen_known name before (last_among name names)

pub lookup_by : {V : Type 0} (name : List ℕ) (f : List ℕ → V) (names : List (List ℕ)) → value_of name (with_values f names) ≡ cond (among name names) (Some (f name)) None
lookup_by name f [] = refl
lookup_by {V} name f (x ∷ xs) =
    elim (same_name name x) as (λ s. same_name name x ≡ s → cond s (Some (f x)) (value_of name (with_values f xs)) ≡ cond (s || among name xs) (Some (f name)) None) [
      | true ↦ λ e. ap (λ (n : List ℕ). Some (f n)) (sym ((same_decides name x).0 e))
      | false ↦ λ e. lookup_by name f xs
    ] refl

-- the value of a name is found where the name was seen
pub value_seen : {V : Type 0} (name : List ℕ) (f : List ℕ → V) (names : List (List ℕ)) → value_of name (with_values f (first_seen names)) ≡ cond (among name names) (Some (f name)) None
value_seen {V} name f names = lookup_by name f (first_seen names) ∙ ap (λ (b : Bool). cond b (Some (f name)) None) (seen_same name names)
