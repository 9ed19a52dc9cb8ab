-- Why ids that were confirmed out of order are forgotten.
use Rattle.std.proofs.Common.{◌≡◌, ◌⊎◌, ℕ, zero, suc, ◌+◌, ◌<◌, ◌≤◌, List, [], ◌∷◌, ◌++◌, refl, sym, ap, subst, ◌∙◌, inl, inr, append_assoc, arith}
use Rattle.std.specs.List.{AllByRecursion}
use Rattle.command_data.specs.declared.item.Tagged.{Tagged}
use Rattle.client_terms.specs.States.{IsConfirmed, IsWithin}
use Rattle.client_terms.specs.Sending.{message}
use Rattle.client_terms.specs.Hearing.{IsIn, LearnStep}
use Rattle.list_machine.specs.Streams.{items_of}
use Rattle.list_machine.specs.Discipline.{Disciplined}
use Rattle.client_laws.specs.Worlds.{numbered}
use Rattle.client_laws.specs.Examples.{client_name, six_bodies, six, resent, jumped, gapped}

five : (id : ℕ) → IsConfirmed jumped id → IsConfirmed resent id ⊎ (IsIn (1 ∷ 2 ∷ []) id × (id ≤ 2))
five id (inr i) = absurd i
five zero (inl h) = inl (inl (omega arith))
five (suc zero) (inl h) = inr (inl refl, omega arith)
five (suc (suc zero)) (inl h) = inr (inr (inl refl), omega arith)
five (suc (suc (suc id))) (inl h) = inl (inr (inl (omega arith, omega (arith, h))))

back : (id : ℕ) → IsConfirmed resent id ⊎ (IsIn (1 ∷ 2 ∷ []) id × (id ≤ 2)) → IsConfirmed jumped id
back id (inl (inl h)) = inl (omega (arith, h))
back id (inl (inr (inl h))) = inl (let a = h.1 in omega (arith, a))
back id (inl (inr (inr h))) = absurd h
back id (inr h) = inl (let a = h.1 in omega (arith, a))

pub jumps : LearnStep resent (1 ∷ 2 ∷ []) jumped
jumps = record {
  adds = λ id. (five id, back id);
  above = λ id i. absurd i;
  left = [] ∷ [] ∷ [] ∷ [] ∷ [] ∷ [];
  queued = refl;
  place = refl;
  is = refl;
}

at_back : (xs : List Tagged) (x : Tagged) (ys : List Tagged) → AllByRecursion (λ (y : Tagged). 1 < y.id) (xs ++ x ∷ ys) → 1 < x.id
at_back [] x ys h = h.0
at_back (z ∷ xs) x ys h = at_back xs x ys h.1

abbrev third_of : List Tagged → ℕ
third_of [] = 0
third_of (x ∷ []) = 0
third_of (x ∷ y ∷ []) = 0
third_of (x ∷ y ∷ z ∷ l) = z.id

abbrev rest_of : List Tagged → List Tagged
rest_of [] = []
rest_of (x ∷ l) = l

gap : (before after : List Tagged) → six ≡ (before ++ items_of gapped) ++ after → ⊥
gap [] after e = let is : 3 ≡ 6 = ap third_of e in omega (arith, is)
gap (b ∷ before) after e =
    let tail : rest_of six ≡ (before ++ items_of gapped) ++ after = ap rest_of e in
    let above : AllByRecursion (λ (y : Tagged). 1 < y.id) (rest_of six) = (omega arith, (omega arith, (omega arith, (omega arith, (omega arith, tt))))) in
    let more : AllByRecursion (λ (y : Tagged). 1 < y.id) (before ++ (items_of gapped ++ after)) = subst (AllByRecursion (λ (y : Tagged). 1 < y.id)) (tail ∙ append_assoc before (items_of gapped) after) above in
    let one : 1 < 1 = at_back before (message 1 []) (message 2 [] ∷ message 6 [] ∷ after) more in omega (arith, one)

pub is_gapped : Disciplined client_name six (gapped ∷ []) → ⊥
is_gapped d = elim (d.each.0 refl) [
  | inl e ↦ absurd cc
  | inr r ↦ gap r.before r.behind r.run
]
