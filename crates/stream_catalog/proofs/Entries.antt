-- A map with names for keys, as a list of names and what they stand for.
use Rattle.std.proofs.Common.{◌≡◌, ℕ, Bool, true, false, cond, List, [], ◌∷◌, ◌++◌, Some, None, Vec, Global, map, filter, refl, ap}
use Rattle.std.specs.Map.{lookup}
use Rattle.indexmap.specs.IndexMap.{insert_entry}
use Rattle.stream_catalog.specs.Names.{same_name}

abbrev pub pairs : {V : Type 0} → List (Vec ℕ Global × V) → List (List ℕ × V)
pairs {V} es = map (λ (e : Vec ℕ Global × V). (e.0.items, e.1)) es

abbrev pub is_held : List ℕ → Vec ℕ Global → Bool
is_held name key = same_name name key.items

pub found : {V : Type 0} (name : List ℕ) (es : List (Vec ℕ Global × V)) → lookup (is_held name) es ≡ lookup (same_name name) (pairs es)
found name [] = refl
found {V} name (e ∷ es) = ap (cond (same_name name e.0.items) (Some e.1)) (found name es)

abbrev pub same_held : Vec ℕ Global → Vec ℕ Global → Bool
same_held a b = same_name a.items b.items

-- a new name goes behind all
pub put_behind : {V : Type 0} (key : Vec ℕ Global) (v : V) (es : List (Vec ℕ Global × V)) → lookup (same_name key.items) (pairs es) ≡ None → pairs (insert_entry same_held es key v) ≡ pairs es ++ (key.items, v) ∷ []
put_behind key v [] none = refl
put_behind {V} key v (e ∷ es) none =
    elim (same_held key e.0) as (λ b. cond b (Some e.1) (lookup (same_name key.items) (pairs es)) ≡ None → pairs (cond b ((e.0, v) ∷ es) (e ∷ insert_entry same_held es key v)) ≡ (e.0.items, e.1) ∷ (pairs es ++ (key.items, v) ∷ [])) [
      | true ↦ λ h. absurd cc
      | false ↦ λ h. ap (λ (l : List (List ℕ × V)). (e.0.items, e.1) ∷ l) (put_behind key v es h)
    ] none

-- what passes a test of values
pub filter_pairs : {V : Type 0} (test : V → Bool) (es : List (Vec ℕ Global × V)) → pairs (filter (λ e. test e.1) es) ≡ filter (λ e. test e.1) (pairs es)
filter_pairs test [] = refl
filter_pairs {V} test (e ∷ es) =
    elim (test e.1) as (λ b. pairs (cond b (e ∷ filter (λ (e : Vec ℕ Global × V). test e.1) es) (filter (λ e. test e.1) es)) ≡ cond b ((e.0.items, e.1) ∷ filter (λ (e : List ℕ × V). test e.1) (pairs es)) (filter (λ e. test e.1) (pairs es))) [
      | true ↦ ap (λ (l : List (List ℕ × V)). (e.0.items, e.1) ∷ l) (filter_pairs test es)
      | false ↦ filter_pairs test es
    ]
