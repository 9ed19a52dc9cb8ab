-- Counts over parts of lists, and what holds of each item that passes.
use Rattle.std.proofs.Common.{◌≡◌, ℕ, ◌+◌, Bool, true, false, not, cond, List, [], ◌∷◌, refl, ap, arith}
use Rattle.std.specs.List.{filter, AllByRecursion}
use Rattle.std.proofs.lemmas.List.Sums.{sum_by-cons}
use Rattle.chunk_format.specs.Logs.{tally}

pub each_filter : {A : Type 0} (P : A → Type 0) (f : A → Bool) (xs : List A) → AllByRecursion P xs → AllByRecursion P (filter f xs)
each_filter P f [] p = tt
each_filter {A} P f (x ∷ xs) p =
    elim (f x) as (λ b. AllByRecursion P (cond b (x ∷ filter f xs) (filter f xs))) [ true ↦ (p.0, each_filter P f xs p.1) | false ↦ each_filter P f xs p.1 ]

pub tally_cons : {A : Type 0} (f : A → Bool) (x : A) (xs : List A) → tally f (x ∷ xs) ≡ cond (f x) 1 0 + tally f xs
tally_cons f x xs = sum_by-cons (λ y. cond (f y) 1 0) x xs

pub tally_by : {A : Type 0} (f : A → Bool) (b : Bool) (x : A) (xs : List A) → tally f (cond b (x ∷ xs) xs) ≡ cond b (cond (f x) 1 0) 0 + tally f xs
tally_by f true x xs = tally_cons f x xs
tally_by f false x xs = omega arith

part_by : (b : Bool) (k : ℕ) → cond b k 0 + cond (not b) k 0 ≡ k
part_by true k = omega arith
part_by false k = omega arith

pub count_parts : {A : Type 0} (f g : A → Bool) (xs : List A) → tally f (filter g xs) + tally f (filter (λ x. not (g x)) xs) ≡ tally f xs
count_parts f g [] = omega arith
count_parts f g (x ∷ xs) =
    let more = count_parts f g xs in
    let here = tally_by f (g x) x (filter g xs) in
    let other = tally_by f (not (g x)) x (filter (λ y. not (g y)) xs) in
    let part = part_by (g x) (cond (f x) 1 0) in
    let whole = tally_cons f x xs in
    omega (arith, more, here, other, part, whole)

pub count_none : {A : Type 0} (f : A → Bool) (xs : List A) → AllByRecursion (λ x. f x ≡ false) xs → tally f xs ≡ 0
count_none f [] p = refl
count_none f (x ∷ xs) p =
    let none = count_none f xs p.1 in
    let here : cond (f x) 1 0 ≡ 0 = ap (λ (b : Bool). cond {A = ℕ} b 1 0) p.0 in
    let whole = tally_cons f x xs in
    omega (arith, none, here, whole)
