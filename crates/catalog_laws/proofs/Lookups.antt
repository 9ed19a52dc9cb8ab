-- What stands for a key in a longer list, and in a shorter one.
use Rattle.std.proofs.Common.{◌≡◌, Bool, true, false, cond, filter, List, [], ◌∷◌, ◌++◌, Some, None}
use Rattle.std.specs.Map.{lookup}

pub none_append : {K : Type 0} {V : Type 0} (test : K → Bool) (xs ys : List (K × V)) → lookup test xs ≡ None → lookup test ys ≡ None → lookup test (xs ++ ys) ≡ None
none_append test [] ys none more = more
none_append test (x ∷ xs) ys none more =
    elim (test x.0) as (λ b. cond b (Some x.1) (lookup test xs) ≡ None → cond b (Some x.1) (lookup test (xs ++ ys)) ≡ None) [
      | true ↦ λ h. absurd cc
      | false ↦ λ h. none_append test xs ys h more
    ] none

none_behind : {K : Type 0} {V : Type 0} (test : K → Bool) (x : K × V) (xs : List (K × V)) → lookup test (x ∷ xs) ≡ None → lookup test xs ≡ None
none_behind test x xs none =
    elim (test x.0) as (λ b. cond b (Some x.1) (lookup test xs) ≡ None → lookup test xs ≡ None) [
      | true ↦ λ h. absurd cc
      | false ↦ λ h. h
    ] none

pub none_filter : {K : Type 0} {V : Type 0} (test : K → Bool) (keep : K × V → Bool) (xs : List (K × V)) → lookup test xs ≡ None → lookup test (filter keep xs) ≡ None
none_filter test keep [] none = none
none_filter test keep (x ∷ xs) none =
    let rest = none_filter test keep xs (none_behind test x xs none) in
    elim (keep x) as (λ k. lookup test (cond k (x ∷ filter keep xs) (filter keep xs)) ≡ None) [
      | true ↦
          elim (test x.0) as (λ b. cond b (Some x.1) (lookup test xs) ≡ None → cond b (Some x.1) (lookup test (filter keep xs)) ≡ None) [
            | true ↦ λ h. absurd cc
            | false ↦ λ h. rest
          ] none
      | false ↦ rest
    ]
