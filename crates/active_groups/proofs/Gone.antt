-- One that left is in no group.
use Rattle.std.proofs.Common.{◌≡◌, ◌≤◌, ◌+◌, ℕ, Bool, true, false, not, cond, List, [], ◌∷◌, Option, None, filter, count_by, sum_by, refl, ap, arith}
use Rattle.std.specs.List.{list_any, find}
use Rattle.std.proofs.lemmas.Grind.{common_steps}
use Rattle.active_groups.specs.declared.consumer.ConsumerId.{ConsumerId}
use Rattle.active_groups.specs.Seating.{Seating, sits, seats_one, state_at, state_of}
use Rattle.active_groups.specs.Changes.{at_first}
use Rattle.active_groups.specs.Steps.{without, has_seats, left, places_of, AreGroups}
use Rattle.active_groups.proofs.Kept.{none_counted, sum_filter}

cons-sum : {A : Type 0} (m : A → ℕ) (x : A) (xs : List A) → sum_by m (x ∷ xs) ≡ m x + sum_by m xs
cons-sum m x xs = grind (arith, common_steps)

some_counted : {A : Type 0} (p : A → Bool) (xs : List A) → list_any p xs ≡ true → 1 ≤ count_by p xs
some_counted p [] h = absurd cc
some_counted p (x ∷ xs) h = grind (arith, common_steps, some_counted p xs)

not_any : {A : Type 0} (p : A → Bool) (xs : List A) → count_by p xs ≡ 0 → list_any p xs ≡ false
not_any p [] h = refl
not_any p (x ∷ xs) h = grind (arith, common_steps, not_any p xs)

filtered : {A : Type 0} (q : A → Bool) (xs : List A) → count_by q (filter (λ x. not (q x)) xs) ≡ 0
filtered q [] = refl
filtered q (x ∷ xs) = grind (arith, common_steps, filtered q xs)

removed_by : (consumer : ConsumerId) (g : Seating) (gs more : List Seating) (b : Bool) → sits consumer g ≡ b → places_of consumer g + sum_by (places_of consumer) gs ≤ 1 → (sum_by (places_of consumer) gs ≤ 1 → sum_by (places_of consumer) more ≡ 0) →
    sum_by (places_of consumer) (cond b (without consumer g ∷ gs) (g ∷ more)) ≡ 0
removed_by consumer g gs more true e few rest =
    omega (arith, cons-sum (places_of consumer) (without consumer g) gs, filtered (seats_one consumer) g.seats, some_counted (seats_one consumer) g.seats e)
removed_by consumer g gs more false e few rest =
    let later : sum_by (places_of consumer) more ≡ 0 = rest (omega arith) in
    omega (arith, later, cons-sum (places_of consumer) g more, none_counted (seats_one consumer) g.seats e)

removed : (consumer : ConsumerId) (gs : List Seating) → sum_by (places_of consumer) gs ≤ 1 → sum_by (places_of consumer) (at_first (sits consumer) (without consumer) gs) ≡ 0
removed consumer [] few = refl
removed consumer (g ∷ gs) few =
    removed_by consumer g gs (at_first (sits consumer) (without consumer) gs) (sits consumer g) refl (omega (arith, few, cons-sum (places_of consumer) g gs)) (removed consumer gs)

unseated : (consumer : ConsumerId) (gs : List Seating) → sum_by (places_of consumer) gs ≡ 0 → find (sits consumer) gs ≡ None
unseated consumer [] none = refl
unseated consumer (g ∷ gs) none =
    let parts = cons-sum (places_of consumer) g gs in
    let out : sits consumer g ≡ false = not_any (seats_one consumer) g.seats (omega (arith, none, parts)) in
    rw out (unseated consumer gs (omega (arith, none, parts)))

pub gone : (consumer : ConsumerId) (gs : List Seating) → AreGroups gs → state_of (left consumer gs) consumer ≡ None
gone consumer gs are =
    let out : sum_by (places_of consumer) (left consumer gs) ≡ 0 =
    omega (arith, sum_filter (places_of consumer) has_seats (at_first (sits consumer) (without consumer) gs), removed consumer gs (are.once consumer)) in
    ap (λ (o : Option Seating). state_at o consumer) (unseated consumer (left consumer gs) out)
