-- A map with names for keys, as a list of names and values.
use Rattle.std.proofs.Common.{◌≡◌, ℕ, suc, ◌+◌, ◌<◌, Bool, true, false, cond, not, List, [], ◌∷◌, length, Some, Vec, Global, map, position, refl, ap, subst, ◌∙◌, arith}
use Rattle.std.specs.List.{prefix_len}
use Rattle.std.specs.Map.{lookup, keys_of}
use Rattle.indexmap.specs.IndexMap.{insert_entry, set_value_at}
use Rattle.indexmap.proofs.MapLemmas.{Found-position}
use Rattle.chunk_format.specs.ByName.{same_name}

abbrev pub pairs : {V : Type 0} → List (Vec ℕ Global × V) → List (List ℕ × V)
pairs {V} es = map (λ (e : Vec ℕ Global × V). (e.0.items, e.1)) es

abbrev pub is_key : List ℕ → Vec ℕ Global → Bool
is_key name key = same_name name key.items

abbrev pub same_key : Vec ℕ Global → Vec ℕ Global → Bool
same_key a b = same_name a.items b.items

pub found : {V : Type 0} (name : List ℕ) (es : List (Vec ℕ Global × V)) → lookup (is_key name) es ≡ lookup (same_name name) (pairs es)
found name [] = refl
found {V} name (e ∷ es) = ap (cond (same_name name e.0.items) (Some e.1)) (found name es)

-- a value in the place of the first that has the name
at_first : {V : Type 0} (name : List ℕ) (v : V) (es : List (Vec ℕ Global × V)) → prefix_len (λ k. not (is_key name k)) (keys_of es) < length es
    → pairs (set_value_at es (prefix_len (λ k. not (is_key name k)) (keys_of es)) v) ≡ insert_entry same_name (pairs es) name v
at_first name v [] within = absurd (omega (arith, within))
at_first {V} name v (e ∷ es) within =
    let rest = prefix_len (λ k. not (is_key name k)) (keys_of es) in
    elim (is_key name e.0) as (λ b. cond (not b) (1 + rest) 0 < length (e ∷ es)
    → pairs (set_value_at (e ∷ es) (cond (not b) (1 + rest) 0) v) ≡ cond b ((e.0.items, v) ∷ pairs es) ((e.0.items, e.1) ∷ insert_entry same_name (pairs es) name v)) [
      | true ↦ λ here. refl
      | false ↦ λ here.
          let next : 1 + rest ≡ suc rest = omega arith in
          ap (λ (n : ℕ). pairs (set_value_at (e ∷ es) n v)) next ∙ ap (λ (l : List (List ℕ × V)). (e.0.items, e.1) ∷ l) (at_first name v es (omega (arith, here)))
    ] within

pub put_there : {V : Type 0} (name : List ℕ) (v : V) (es : List (Vec ℕ Global × V)) (i : ℕ) → position (is_key name) (keys_of es) ≡ Some i → pairs (set_value_at es i v) ≡ insert_entry same_name (pairs es) name v
put_there {V} name v es i is =
    let at = Found-position (is_key name) es i is in
    let place : prefix_len (λ k. not (is_key name k)) (keys_of es) ≡ i = at.or_len in
    let within : i < length es = at.within in
    subst (λ (n : ℕ). pairs (set_value_at es n v) ≡ insert_entry same_name (pairs es) name v) place (at_first name v es (omega (arith, place, within)))

-- a new name
pub put_new : {V : Type 0} (key : Vec ℕ Global) (v : V) (es : List (Vec ℕ Global × V)) → pairs (insert_entry same_key es key v) ≡ insert_entry same_name (pairs es) key.items v
put_new key v [] = refl
put_new {V} key v (e ∷ es) =
    elim (same_key key e.0) as (λ b. pairs (cond b ((e.0, v) ∷ es) (e ∷ insert_entry same_key es key v)) ≡ cond b ((e.0.items, v) ∷ pairs es) ((e.0.items, e.1) ∷ insert_entry same_name (pairs es) key.items v)) [
      | true ↦ refl
      | false ↦ ap (λ (l : List (List ℕ × V)). (e.0.items, e.1) ∷ l) (put_new key v es)
    ]
