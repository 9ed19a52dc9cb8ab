-- Messages under their ids; lists that are cut in two ways; a value that is put at a number.
use Rattle.std.proofs.Common.{true, false, ◌≡◌, ℕ, ◌+◌, ◌<◌, ◌≤◌, ◌==◌, Bool, cond, List, [], ◌∷◌, ◌++◌, length, drop, refl, sym, ap, subst, ◌∙◌, inl, inr, arith}
use Rattle.std.specs.List.{AllByRecursion}
use Rattle.std.proofs.lemmas.Bool.Decides.{eqb_tells}
use Rattle.command_data.specs.declared.item.Tagged.{Tagged}
use Rattle.client_terms.specs.Sending.{message}
use Rattle.list_machine.specs.Machines.{put}
use Rattle.list_machine.proofs.Lists.{all_weaker}
use Rattle.client_laws.specs.Worlds.{numbered}

pub numbered_append : (n : ℕ) (xs ys : List (List ℕ)) → numbered n (xs ++ ys) ≡ numbered n xs ++ numbered (n + length xs) ys
numbered_append n [] ys = ap (λ (k : ℕ). numbered k ys) (omega arith)
numbered_append n (x ∷ xs) ys =
    let e : (n + 1) + length xs ≡ n + length (x ∷ xs) = omega arith in
    ap (λ (l : List Tagged). message (n + 1) x ∷ l) (numbered_append (n + 1) xs ys ∙ ap (λ (k : ℕ). numbered (n + 1) xs ++ numbered k ys) e)

-- their ids lie above the number, and reach as far as they are many
pub numbered_between : (n : ℕ) (xs : List (List ℕ)) → AllByRecursion (λ (x : Tagged). (n < x.id) × (x.id ≤ n + length xs)) (numbered n xs)
numbered_between n [] = tt
numbered_between n (x ∷ xs) = (
  (omega arith, omega arith),
  all_weaker (λ (y : Tagged). (n + 1 < y.id) × (y.id ≤ (n + 1) + length xs)) (λ (y : Tagged). (n < y.id) × (y.id ≤ n + length (x ∷ xs)))
      (λ y h. (let a = h.0 in omega (arith, a), let b = h.1 in omega (arith, b))) (numbered (n + 1) xs) (numbered_between (n + 1) xs),
)

-- ---- one list cut in two ways

-- The first cut is not behind the second: `mid` lies between.
pub record Within {X : Type 0} (passed left ahead rest : List X) : Type 0 where
  pub mid : List X
  pub front : ahead ≡ passed ++ mid
  pub back : left ≡ mid ++ rest

pub within : {X : Type 0} (passed left ahead rest : List X) → passed ++ left ≡ ahead ++ rest → length passed ≤ length ahead → Within passed left ahead rest
within [] left ahead rest e l = record { mid = ahead; front = refl; back = e }
within (p ∷ passed) left [] rest e l = absurd (omega (arith, l))
within {X = X} (p ∷ passed) left (a ∷ ahead) rest e l =
    let head : a ≡ p = cc in
    let tail : passed ++ left ≡ ahead ++ rest = cc in
    let inner : Within passed left ahead rest = within passed left ahead rest tail (omega (arith, l)) in
    let front : ahead ≡ passed ++ inner.mid = inner.front in
    record { mid = inner.mid; front = cc; back = inner.back }

-- what stands behind the first list
pub drop_front : {X : Type 0} (xs ys : List X) → drop (length xs) (xs ++ ys) ≡ ys
drop_front [] ys = refl
drop_front (x ∷ xs) ys = drop_front xs ys

-- ---- a value put at a number

pub at_put : {X : Type 0} (P : ℕ → X → Type 0) (c : ℕ) (x : X) (f : ℕ → X) (k : ℕ) → (k ≡ c → P k x) → ((k ≡ c → ⊥) → P k (f k)) → P k (put c x f k)
at_put P c x f k here apart = elim (eqb_tells k c) [
  | inl h ↦ subst (λ (b : Bool). P k (cond b x (f k))) (sym h.0) (here h.1)
  | inr h ↦ subst (λ (b : Bool). P k (cond b x (f k))) (sym h.0) (apart h.1)
]

-- the same of two
pub at_both : {X Y : Type 0} (P : ℕ → X → Y → Type 0) (c : ℕ) (x : X) (f : ℕ → X) (y : Y) (g : ℕ → Y) (k : ℕ) → (k ≡ c → P k x y) → ((k ≡ c → ⊥) → P k (f k) (g k)) → P k (put c x f k) (put c y g k)
at_both P c x f y g k here apart = elim (eqb_tells k c) [
  | inl h ↦ subst (λ (b : Bool). P k (cond b x (f k)) (cond b y (g k))) (sym h.0) (here h.1)
  | inr h ↦ subst (λ (b : Bool). P k (cond b x (f k)) (cond b y (g k))) (sym h.0) (apart h.1)
]
