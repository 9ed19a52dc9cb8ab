-- The connection of a number: where it stands, and another in its place.
use Rattle.std.proofs.Common.{◌≡◌, ◌≢◌, ℕ, zero, suc, ◌+◌, ◌<◌, ◌==◌, Bool, true, false, cond, List, [], ◌∷◌, ◌++◌, length, get_or, take, drop, slice_set, Option, Some, None, refl, sym, ap, subst, ◌∙◌, eq-eqb, arith}
use Rattle.std.proofs.lemmas.List.{take_more, length-take}
use Rattle.replay_node.specs.declared.session.Link.{Link}
use Rattle.replay_node.specs.NodeState.{find_link, put_link}
use Rattle.replay_node.specs.NodeFields.{IsPlace}

-- a test that failed
pub differs : (a b : ℕ) → a ≢ b → (a == b) ≡ false
differs a b other = grind arith

skip : (b : Bool) (x : Link) (o p r : Option Link) → cond b (Some x) o ≡ None → (o ≡ None → p ≡ r) → cond b (Some x) p ≡ r
skip true x o p r e f = absurd cc
skip false x o p r e f = f e

-- the first of a number, behind others
pub find_behind : (n : ℕ) (front back : List Link) (link : Link) → find_link n front ≡ None → link.number ≡ n → find_link n (front ++ link ∷ back) ≡ Some link
find_behind n [] back link none is = ap (λ (b : Bool). cond b (Some link) (find_link n back)) (eq-eqb link.number n is)
find_behind n (x ∷ front) back link none is =
    skip (x.number == n) x (find_link n front) (find_link n (front ++ link ∷ back)) (Some link) none (λ rest. find_behind n front back link rest is)

-- none of a number, in lists one behind the other
pub find_none : (n : ℕ) (front back : List Link) → find_link n front ≡ None → find_link n back ≡ None → find_link n (front ++ back) ≡ None
find_none n [] back one two = two
find_none n (x ∷ front) back one two = skip (x.number == n) x (find_link n front) (find_link n (front ++ back)) None one (λ rest. find_none n front back rest two)

pub find_none_more : (n k : ℕ) (links : List Link) (x : Link) → find_link n (take k links) ≡ None → k < length links → x ≡ get_or links k x → x.number ≢ n → find_link n (take (k + 1) links) ≡ None
find_none_more n k links x none lt is other =
    let here : find_link n (x ∷ []) ≡ None = ap (λ (b : Bool). cond b (Some x) None) (differs x.number n other) in
    let taken : take (k + 1) links ≡ take k links ++ x ∷ [] = take_more links k x lt ∙ ap (λ (y : Link). take k links ++ y ∷ []) (sym is) in
    subst (λ (l : List Link). find_link n l ≡ None) (sym taken) (find_none n (take k links) (x ∷ []) none here)

pub place_finds : (k n : ℕ) (links : List Link) (place : IsPlace k n links) → find_link n links ≡ Some place.link
place_finds k n links place =
    subst (λ (l : List Link). find_link n l ≡ Some place.link) (sym place.at) (find_behind n (take k links) (drop (k + 1) links) place.link place.first place.is_it)

keep : (b : Bool) (x : Link) (o : Option Link) (l r s : List Link) → cond b (Some x) o ≡ None → (o ≡ None → r ≡ s) → cond b l (x ∷ r) ≡ x ∷ s
keep true x o l r s e f = absurd cc
keep false x o l r s e f = ap (λ (t : List Link). x ∷ t) (f e)

put_behind : (new : Link) (front back : List Link) (link : Link) → find_link new.number front ≡ None → link.number ≡ new.number → put_link new (front ++ link ∷ back) ≡ front ++ new ∷ back
put_behind new [] back link none is = ap (λ (b : Bool). cond b (new ∷ back) (link ∷ put_link new back)) (eq-eqb link.number new.number is)
put_behind new (x ∷ front) back link none is =
    keep (x.number == new.number) x (find_link new.number front) (new ∷ (front ++ link ∷ back)) (put_link new (front ++ link ∷ back)) (front ++ new ∷ back) none (λ rest. put_behind new front back link rest is)

set_parts : (k : ℕ) (links : List Link) (link new : Link) → k < length links → slice_set links k new ≡ take k links ++ new ∷ drop (k + 1) links
set_parts k [] link new lt = absurd (omega (arith, lt))
set_parts zero (x ∷ links) link new lt = refl
set_parts (suc k) (x ∷ links) link new lt =
    let at : suc k + 1 ≡ suc (k + 1) = omega arith in
    ap (λ (t : List Link). x ∷ t) (set_parts k links link new (omega (arith, lt))) ∙ ap (λ (n : ℕ). x ∷ (take k links ++ new ∷ drop n (x ∷ links))) (sym at)

pub place_puts : (k : ℕ) (links : List Link) (new : Link) → IsPlace k new.number links → slice_set links k new ≡ put_link new links
place_puts k links new place =
    set_parts k links place.link new place.within
    ∙ sym (ap (put_link new) place.at ∙ put_behind new (take k links) (drop (k + 1) links) place.link place.first place.is_it)

at_length : (front back : List Link) (link d : Link) → get_or (front ++ link ∷ back) (length front) d ≡ link
at_length [] back link d = refl
at_length (y ∷ front) back link d = at_length front back link d

-- what stands at the place is the connection of the number
pub place_is : (k n : ℕ) (links : List Link) (x : Link) (place : IsPlace k n links) → x ≡ get_or links k x → x ≡ place.link
place_is k n links x place at =
    let within = place.within in
    let len : length (take k links) ≡ k = omega (arith, length-take k links) in
    at ∙ ap (λ (l : List Link). get_or l k x) place.at ∙ ap (λ (j : ℕ). get_or (take k links ++ place.link ∷ drop (k + 1) links) j x) (sym len)
    ∙ at_length (take k links) (drop (k + 1) links) place.link x
