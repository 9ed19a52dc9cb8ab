-- Whoever joined waits.
use Rattle.std.proofs.Common.{◌≡◌, ℕ, Bool, true, false, cond, List, [], ◌∷◌, ◌++◌, Option, Some, None, Result, Ok, Err, OnOk, ap, ◌∙◌, refl, arith}
use Rattle.std.specs.List.{list_any, find}
use Rattle.std.proofs.lemmas.Grind.{common_steps}
use Rattle.active_groups.specs.declared.consumer.ConsumerId.{ConsumerId}
use Rattle.active_groups.specs.declared.consumer.GroupState.TheVariants.{Waiting}
use Rattle.active_groups.specs.declared.consumer.Seat.{Seat}
use Rattle.active_groups.specs.Seating.{Seating, is_of, sits, seats_one, state_in, state_at, state_of}
use Rattle.active_groups.specs.Changes.{at_first}
use Rattle.active_groups.specs.Steps.{with_consumer, new_group, joined}
use Rattle.active_groups.proofs.Kept.{not_at}

-- in its group
its_place : (seats : List Seat) (consumer : ConsumerId) → list_any (seats_one consumer) seats ≡ false →
    (list_any (seats_one consumer) (seats ++ record { consumer = consumer; state = Waiting } ∷ []) ≡ true) × (state_in (seats ++ record { consumer = consumer; state = Waiting } ∷ []) consumer ≡ Some Waiting)
its_place [] consumer h = (grind (arith, common_steps), grind (arith, common_steps))
its_place (s ∷ seats) consumer h =
    let rest = its_place seats consumer (grind (arith, common_steps)) in
    (grind (arith, common_steps, rest.0), grind (arith, common_steps, rest.1))

its_group : (consumer : ConsumerId) (g : Seating) (gs : List Seating) → sits consumer g ≡ false → state_of (with_consumer consumer g ∷ gs) consumer ≡ Some Waiting
its_group consumer g gs h =
    let there = its_place g.seats consumer h in
    ap (λ (b : Bool). state_at (cond b (Some (with_consumer consumer g)) (find (sits consumer) gs)) consumer) there.0 ∙ there.1

behind : (consumer : ConsumerId) (g : Seating) (gs : List Seating) → sits consumer g ≡ false → state_of (g ∷ gs) consumer ≡ state_of gs consumer
behind consumer g gs h = ap (λ (b : Bool). state_at (cond b (Some g) (find (sits consumer) gs)) consumer) h

first_by : (consumer : ConsumerId) (g : Seating) (gs more : List Seating) (b : Bool) → sits consumer g ≡ false → (b ≡ false → state_of more consumer ≡ Some Waiting) → state_of (cond b (with_consumer consumer g ∷ gs) (g ∷ more)) consumer ≡ Some Waiting
first_by consumer g gs more true h rest = its_group consumer g gs h
first_by consumer g gs more false h rest = behind consumer g more h ∙ rest refl

in_first : (p : Seating → Bool) (consumer : ConsumerId) (gs : List Seating) → state_of gs consumer ≡ None → list_any p gs ≡ true → state_of (at_first p (with_consumer consumer) gs) consumer ≡ Some Waiting
in_first p consumer [] out some = absurd cc
in_first p consumer (g ∷ gs) out some =
    let parts = not_at consumer g gs (sits consumer g) refl out in
    first_by consumer g gs (at_first p (with_consumer consumer) gs) (p g) parts.0 (λ no. in_first p consumer gs parts.1 (grind (arith, common_steps)))

in_new : (stream : ℕ) (name : Option (List ℕ)) (index : ℕ) (consumer : ConsumerId) (gs : List Seating) → state_of gs consumer ≡ None → state_of (gs ++ with_consumer consumer (new_group stream name index) ∷ []) consumer ≡ Some Waiting
in_new stream name index consumer [] out = its_group consumer (new_group stream name index) [] refl
in_new stream name index consumer (g ∷ gs) out =
    let parts = not_at consumer g gs (sits consumer g) refl out in
    behind consumer g (gs ++ with_consumer consumer (new_group stream name index) ∷ []) parts.0 ∙ in_new stream name index consumer gs parts.1

joined_by : (stream : ℕ) (name : Option (List ℕ)) (index : ℕ) (consumer : ConsumerId) (gs : List Seating) (b : Bool) → list_any (is_of stream name) gs ≡ b → state_of gs consumer ≡ None →
    state_of (cond b (at_first (is_of stream name) (with_consumer consumer) gs) (gs ++ with_consumer consumer (new_group stream name index) ∷ [])) consumer ≡ Some Waiting
joined_by stream name index consumer gs true e out = in_first (is_of stream name) consumer gs out e
joined_by stream name index consumer gs false e out = in_new stream name index consumer gs out

-- whoever joins was in no group before
pub waits : (stream : ℕ) (name : Option (List ℕ)) (index : ℕ) (consumer : ConsumerId) (gs : List Seating) → state_of gs consumer ≡ None → state_of (joined stream name index consumer gs) consumer ≡ Some Waiting
waits stream name index consumer gs out = joined_by stream name index consumer gs (list_any (is_of stream name) gs) refl out

pub waits_if : {A B : Type 0} (stream : ℕ) (name : Option (List ℕ)) (index : ℕ) (consumer : ConsumerId) (gs new : List Seating) (r : Result A B) → state_of gs consumer ≡ None → OnOk r (new ≡ joined stream name index consumer gs) → OnOk r (state_of new consumer ≡ Some Waiting)
waits_if stream name index consumer gs new (Ok x) out e = rw e (waits stream name index consumer gs out)
waits_if stream name index consumer gs new (Err x) out e = e
