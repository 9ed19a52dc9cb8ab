-- Lists of items: what stands in them, and what comes next.
use Rattle.std.proofs.Common.{true, false, ◌≡◌, ◌&&◌, ℕ, ◌==◌, ◌<◌, Bool, cond, List, [], ◌∷◌, ◌++◌, refl, sym, ap, subst, ◌∙◌, inl, inr, eq-eqb, arith}
use Rattle.std.specs.Prelude.{count_by}
use Rattle.std.specs.List.{AllByRecursion}
use Rattle.std.proofs.lemmas.List.Sums.{sum_by-cons}
use Rattle.std.proofs.lemmas.Bool.{eqb-true}
use Rattle.std.proofs.lemmas.Bool.Decides.{eqb_tells}
use Rattle.chunk_format.specs.Logs.{GoesOn, same_name}
use Rattle.command_data.specs.declared.item.Tagged.{Tagged}
use Rattle.list_machine.specs.Items.{AnyByRecursion, Rises, IsReached, AreReached}

-- ---- some and all

pub any_front : {X : Type 0} (P : X → Type 0) (xs ys : List X) → AnyByRecursion P xs → AnyByRecursion P (xs ++ ys)
any_front P [] ys h = absurd h
any_front P (x ∷ xs) ys (inl h) = inl h
any_front P (x ∷ xs) ys (inr h) = inr (any_front P xs ys h)

pub any_back : {X : Type 0} (P : X → Type 0) (xs ys : List X) → AnyByRecursion P ys → AnyByRecursion P (xs ++ ys)
any_back P [] ys h = h
any_back P (x ∷ xs) ys h = inr (any_back P xs ys h)

pub any_weaker : {X : Type 0} (P Q : X → Type 0) (f : (x : X) → P x → Q x) (xs : List X) → AnyByRecursion P xs → AnyByRecursion Q xs
any_weaker P Q f [] h = absurd h
any_weaker P Q f (x ∷ xs) (inl h) = inl (f x h)
any_weaker P Q f (x ∷ xs) (inr h) = inr (any_weaker P Q f xs h)

-- one of which both hold
pub record Both {X : Type 0} (P Q : X → Type 0) : Type 0 where
  pub one : X
  pub left : P one
  pub right : Q one

pub any_all : {X : Type 0} (P Q : X → Type 0) (xs : List X) → AnyByRecursion P xs → AllByRecursion Q xs → Both P Q
any_all P Q [] h all = absurd h
any_all P Q (x ∷ xs) (inl h) all = record { one = x; left = h; right = all.0 }
any_all P Q (x ∷ xs) (inr h) all = any_all P Q xs h all.1

pub all_weaker : {X : Type 0} (P Q : X → Type 0) (f : (x : X) → P x → Q x) (xs : List X) → AllByRecursion P xs → AllByRecursion Q xs
all_weaker P Q f [] h = tt
all_weaker P Q f (x ∷ xs) h = (f x h.0, all_weaker P Q f xs h.1)

pub all_append : {X : Type 0} (P : X → Type 0) (xs ys : List X) → AllByRecursion P xs → AllByRecursion P ys → AllByRecursion P (xs ++ ys)
all_append P [] ys a b = b
all_append P (x ∷ xs) ys a b = (a.0, all_append P xs ys a.1 b)

pub all_front : {X : Type 0} (P : X → Type 0) (xs ys : List X) → AllByRecursion P (xs ++ ys) → AllByRecursion P xs
all_front P [] ys h = tt
all_front P (x ∷ xs) ys h = (h.0, all_front P xs ys h.1)

pub all_back : {X : Type 0} (P : X → Type 0) (xs ys : List X) → AllByRecursion P (xs ++ ys) → AllByRecursion P ys
all_back P [] ys h = h
all_back P (x ∷ xs) ys h = all_back P xs ys h.1

-- what holds of all still does with one exchanged
pub all_turned : {X : Type 0} (P : X → Type 0) (xs : List X) (x y : X) (ys : List X) → (P x → P y) → AllByRecursion P (xs ++ x ∷ ys) → AllByRecursion P (xs ++ y ∷ ys)
all_turned P [] x y ys f h = (f h.0, h.1)
all_turned P (z ∷ xs) x y ys f h = (h.0, all_turned P xs x y ys f h.1)

-- what holds of each in a list, of one that stands there
pub all_at : {X : Type 0} (P : X → Type 0) (xs : List X) (x : X) → AllByRecursion P xs → AnyByRecursion (λ (y : X). y ≡ x) xs → P x
all_at P [] x all h = absurd h
all_at P (y ∷ xs) x all (inl h) = subst P h all.0
all_at P (y ∷ xs) x all (inr h) = all_at P xs x all.1 h

pub each_self : {X : Type 0} (xs : List X) → AllByRecursion (λ (x : X). AnyByRecursion (λ (y : X). y ≡ x) xs) xs
each_self [] = tt
each_self (x ∷ xs) = (inl refl, all_weaker (λ (z : _). AnyByRecursion (λ (y : _). y ≡ z) xs) (λ (z : _). AnyByRecursion (λ (y : _). y ≡ z) (x ∷ xs)) (λ z h. inr h) xs (each_self xs))

-- ---- prefixes

-- the one list begins with the other, item by item
abbrev pub Begins : {X : Type 0} → List X → List X → Type 0
Begins [] ys = Unit {0}
Begins (x ∷ xs) [] = ⊥
Begins (x ∷ xs) (y ∷ ys) = (x ≡ y) × Begins xs ys

pub begins_on : {X : Type 0} (xs ys : List X) → Begins xs ys → GoesOn xs ys
begins_on [] ys b = (ys, refl)
begins_on (x ∷ xs) [] b = absurd b
begins_on (x ∷ xs) (y ∷ ys) b = let rest = begins_on xs ys b.1 in (rest.0, ap (λ (z : _). z ∷ ys) (sym b.0) ∙ ap (λ (l : List _). x ∷ l) rest.1)

pub begins_self : {X : Type 0} (xs : List X) → Begins xs xs
begins_self [] = tt
begins_self (x ∷ xs) = (refl, begins_self xs)

pub begins_append : {X : Type 0} (xs ys : List X) → Begins xs (xs ++ ys)
begins_append [] ys = tt
begins_append (x ∷ xs) ys = (refl, begins_append xs ys)

pub begins_more : {X : Type 0} (xs ys zs : List X) → Begins xs ys → Begins ys zs → Begins xs zs
begins_more [] ys zs a b = tt
begins_more (x ∷ xs) [] zs a b = absurd a
begins_more (x ∷ xs) (y ∷ ys) [] a b = absurd b
begins_more (x ∷ xs) (y ∷ ys) (z ∷ zs) a b = (a.0 ∙ b.0, begins_more xs ys zs a.1 b.1)

-- ---- reached ids

pub reached_front : (xs ys : List Tagged) (id : ℕ) → IsReached xs id → IsReached (xs ++ ys) id
reached_front [] ys id h = absurd h
reached_front (x ∷ xs) ys id (inl h) = inl h
reached_front (x ∷ xs) ys id (inr h) = inr (reached_front xs ys id h)

pub reached_back : (xs ys : List Tagged) (id : ℕ) → IsReached ys id → IsReached (xs ++ ys) id
reached_back [] ys id h = h
reached_back (x ∷ xs) ys id h = inr (reached_back xs ys id h)

pub all_reached_front : (xs ys items : List Tagged) → AreReached xs items → AreReached (xs ++ ys) items
all_reached_front xs ys items h = all_weaker (λ (x : Tagged). IsReached xs x.id) (λ (x : Tagged). IsReached (xs ++ ys) x.id) (λ x r. reached_front xs ys x.id r) items h

-- ---- rising ids

pub rises_front : (xs ys : List Tagged) → Rises (xs ++ ys) → Rises xs
rises_front [] ys r = tt
rises_front (x ∷ xs) ys r = (all_front (λ (y : Tagged). x.id < y.id) xs ys r.0, rises_front xs ys r.1)

pub rises_push : (xs : List Tagged) (x : Tagged) → Rises xs → AllByRecursion (λ (y : Tagged). y.id < x.id) xs → Rises (xs ++ x ∷ [])
rises_push [] x r a = (tt, tt)
rises_push (y ∷ xs) x r a = (all_append (λ (z : Tagged). y.id < z.id) xs (x ∷ []) r.0 (a.0, tt), rises_push xs x r.1 a.1)

-- what is not above the first does not reach what is
reached_behind : (t : Tagged) (tags before rest : List Tagged) → AllByRecursion (λ (y : Tagged). t.id < y.id) (before ++ rest) → AreReached (t ∷ tags) before → AreReached tags before
reached_behind t tags [] rest a p = tt
reached_behind t tags (y ∷ before) rest a p = (elim p.0 [ inl h ↦ absurd (omega (arith, a.0, h)) | inr h ↦ h ], reached_behind t tags before rest a.1 p.1)

-- The tags begin P, all of P before x is reached by them, and x is above them: so x is the next of P.
pub next_stands : (tags before after : List Tagged) (x : Tagged) → Rises (before ++ x ∷ after) → Begins tags (before ++ x ∷ after) → AreReached tags before → AllByRecursion (λ (y : Tagged). y.id < x.id) tags
    → Begins (tags ++ x ∷ []) (before ++ x ∷ after)
next_stands [] [] after x r b p l = (refl, tt)
next_stands [] (q ∷ before) after x r b p l = absurd p.0
next_stands (t ∷ tags) [] after x r b p l = let e : t.id ≡ x.id = ap (λ (y : Tagged). y.id) b.0 in absurd (omega (arith, e, l.0))
next_stands (t ∷ tags) (q ∷ before) after x r b p l =
    let above : AllByRecursion (λ (y : Tagged). t.id < y.id) (before ++ x ∷ after) = subst (λ (z : Tagged). AllByRecursion (λ (y : Tagged). z.id < y.id) (before ++ x ∷ after)) (sym b.0) r.0 in
    (b.0, next_stands tags before after x r.1 b.1 (reached_behind t tags before (x ∷ after) above p.1) l.1)

-- an item of P that the tags reach stands in them
pub stands_in : (tags P : List Tagged) (x : Tagged) → Rises P → Begins tags P → AnyByRecursion (λ (y : Tagged). y ≡ x) P → IsReached tags x.id → AnyByRecursion (λ (y : Tagged). y ≡ x) tags
stands_in [] P x r b i h = absurd h
stands_in (t ∷ tags) [] x r b i h = absurd b
stands_in (t ∷ tags) (p ∷ P) x r b (inl e) h = inl (b.0 ∙ e)
stands_in (t ∷ tags) (p ∷ P) x r b (inr i) (inl h) =
    let up : p.id < x.id = all_at (λ (y : Tagged). p.id < y.id) P x r.0 i in
    let e : t.id ≡ p.id = ap (λ (y : Tagged). y.id) b.0 in absurd (omega (arith, up, e, h))
stands_in (t ∷ tags) (p ∷ P) x r b (inr i) (inr h) = inr (stands_in tags P x r.1 b.1 i h)

abbrev with_id : ℕ → List Tagged → ℕ
with_id id xs = count_by (λ (y : Tagged). y.id == id) xs

none_above : (id : ℕ) (xs : List Tagged) → AllByRecursion (λ (y : Tagged). id < y.id) xs → with_id id xs ≡ 0
none_above id [] a = refl
none_above id (x ∷ xs) a =
    let rest = none_above id xs a.1 in
    elim (eqb_tells x.id id) [
      | inl h ↦ (let e : x.id ≡ id = h.1 in absurd (omega (arith, e, a.0)))
      | inr h ↦ (let one : cond (x.id == id) 1 0 ≡ 0 = ap (λ (b : Bool). cond {A = ℕ} b 1 0) h.0 in sum_by-cons (λ (y : Tagged). cond (y.id == id) 1 0) x xs ∙ omega (arith, one, rest))
    ]

-- an id of a rising list stands in it once
pub once_in : (xs : List Tagged) (x : Tagged) → Rises xs → AnyByRecursion (λ (y : Tagged). y ≡ x) xs → with_id x.id xs ≡ 1
once_in [] x r h = absurd h
once_in (y ∷ xs) x r (inl h) =
    let up : AllByRecursion (λ (z : Tagged). x.id < z.id) xs = subst (λ (w : Tagged). AllByRecursion (λ (z : Tagged). w.id < z.id) xs) h r.0 in
    let rest = none_above x.id xs up in
    let one : cond (y.id == x.id) 1 0 ≡ 1 = ap (λ (b : Bool). cond {A = ℕ} b 1 0) (eq-eqb y.id x.id (ap (λ (w : Tagged). w.id) h)) in
    sum_by-cons (λ (z : Tagged). cond (z.id == x.id) 1 0) y xs ∙ omega (arith, one, rest)
once_in (y ∷ xs) x r (inr h) =
    let rest = once_in xs x r.1 h in
    let up : y.id < x.id = all_at (λ (z : Tagged). y.id < z.id) xs x r.0 h in
    elim (eqb_tells y.id x.id) [
      | inl e ↦ (let same : y.id ≡ x.id = e.1 in absurd (omega (arith, same, up)))
      | inr e ↦ (let none : cond (y.id == x.id) 1 0 ≡ 0 = ap (λ (b : Bool). cond {A = ℕ} b 1 0) e.0 in sum_by-cons (λ (z : Tagged). cond (z.id == x.id) 1 0) y xs ∙ omega (arith, none, rest))
    ]

-- ---- bytes

pub same_bytes : (a b : List ℕ) → same_name a b ≡ true → a ≡ b
same_bytes [] [] e = refl
same_bytes [] (y ∷ b) e = absurd cc
same_bytes (x ∷ a) [] e = absurd cc
same_bytes (x ∷ a) (y ∷ b) e = go (λ r. same_bytes a b r) (x == y) refl e
  where
    go : (same_name a b ≡ true → a ≡ b) → (t : Bool) → (x == y) ≡ t → (t && same_name a b) ≡ true → x ∷ a ≡ y ∷ b
    go f true is rest = let head : x ≡ y = eqb-true x y is in let tail : a ≡ b = f rest in cc
    go f false is rest = absurd cc

pub own_bytes : (a : List ℕ) → same_name a a ≡ true
own_bytes [] = refl
own_bytes (x ∷ a) = ap (λ (t : Bool). t && same_name a a) (eq-eqb x x refl) ∙ own_bytes a
