-- What each call does, by the place that it found.
use Rattle.std.proofs.Common.{◌≡◌, not, cond, slice_set, IsTrue, IfNone, IfSome, zero, ◌==◌, ◌<◌, ℕ, suc, Bool, true, false, List, [], ◌∷◌, ◌++◌, length, Option, Some, None, Result, Ok, Err, OnOk, OnErr, filter, position, slice_index_or, refl, sym, ap, ◌∙◌, arith}
use Rattle.std.specs.List.{All, list_any, find}
use Rattle.std.specs.Option.{option_map}
use Rattle.std.proofs.lemmas.Bool.{eqb-true}
use Rattle.std.proofs.lemmas.List.Quantifiers.{position-Some}
use Rattle.std.proofs.lemmas.Grind.{common_steps}
use Rattle.active_groups.specs.declared.consumer.ConsumerId.{ConsumerId}
use Rattle.active_groups.specs.declared.consumer.GroupState.{GroupState}
use Rattle.active_groups.specs.declared.consumer.GroupState.TheVariants.{Waiting, Starting, Active, Stopping}
use Rattle.active_groups.specs.declared.consumer.Seat.{Seat}
use Rattle.active_groups.specs.declared.consumer.Change.{Change}
use Rattle.active_groups.specs.Seating.{Seating, is_of, sits, seats_one, state_in, state_at, state_of, is_active, is_open}
use Rattle.active_groups.specs.Changes.{at_place, at_first, wanted, change_at, told, is_change_for, tells, with_state, after_answer, answered_seat, answered}
use Rattle.active_groups.specs.Steps.{with_consumer, new_group, joined, without, has_seats, left, change_in, first_change, polled, is_awaited, replied, ChangesAt, TellsAt, AnswersAt, AreGroups}
use Rattle.active_groups.proofs.Kept.{joined_are}
use Rattle.active_groups.proofs.Places.{changed, unchanged, found, missing, any, none, set_there}

back : {A : Type 0} (xs : List A) (i : ℕ) (x : A) → x ≡ slice_index_or xs i x → slice_set xs i x ≡ xs
back [] i x h = refl
back (y ∷ xs) zero x h = ap (λ v. v ∷ xs) h
back (y ∷ xs) (suc i) x h = ap (λ l. y ∷ l) (back xs i x h)

-- ---- in a group

pub starts : (g : Seating) → list_any (λ (s : Seat). is_open s.state) g.seats ≡ false → position (λ (s : Seat). is_active s.state) g.seats ≡ None → (length g.seats == 0) ≡ false → Some (wanted g, true) ≡ change_at g
starts g calm nobody some = rw (calm, nobody, some) refl

pub stops : (g : Seating) (place : ℕ) → list_any (λ (s : Seat). is_open s.state) g.seats ≡ false → position (λ (s : Seat). is_active s.state) g.seats ≡ Some place → (place ≡ wanted g → ⊥) → Some (place, false) ≡ change_at g
stops g place calm there other = let no : (place == wanted g) ≡ false = grind arith in rw (calm, there, no) refl

pub no_state : (seats : List Seat) (consumer : ConsumerId) → position (seats_one consumer) seats ≡ None → None ≡ state_in seats consumer
no_state seats consumer h = ap (option_map (λ (s : Seat). s.state)) (sym (missing (seats_one consumer) seats h))

pub its_state : (seats : List Seat) (consumer : ConsumerId) (i : ℕ) (s : Seat) → position (seats_one consumer) seats ≡ Some i → s ≡ slice_index_or seats i s → Some s.state ≡ state_in seats consumer
its_state seats consumer i s h is = ap (option_map (λ (s : Seat). s.state)) (sym (found (seats_one consumer) seats i s h is))

pub no_answer : (g : Seating) (consumer : ConsumerId) → position (seats_one consumer) g.seats ≡ None → g ≡ answered consumer g
no_answer g consumer h = ap (λ (seats : List Seat). record g { seats = seats }) (sym (unchanged (seats_one consumer) answered_seat g.seats h))

pub its_answer : (seats : List Seat) (consumer : ConsumerId) (i : ℕ) (s : Seat) → position (seats_one consumer) seats ≡ Some i → i < length seats → s ≡ slice_index_or seats i s →
    at_place i (with_state (after_answer s.state)) seats ≡ at_first (seats_one consumer) answered_seat seats
its_answer seats consumer i s h lt is =
    sym (set_there (with_state (after_answer s.state)) seats i s lt is) ∙ changed (seats_one consumer) answered_seat seats i s h is

-- ---- in all groups

pub poll_none : (session : ℕ) (gs : List Seating) → position (tells session) gs ≡ None → (None ≡ first_change session gs) × (gs ≡ polled session gs)
poll_none session gs h = (ap change_in (sym (missing (tells session) gs h)), sym (unchanged (tells session) told gs h))

pub poll_told : (session : ℕ) (gs : List Seating) (i : ℕ) (change : Option Change) (new : List Seating) → position (tells session) gs ≡ Some i → TellsAt i gs change new → (change ≡ first_change session gs) × (new ≡ polled session gs)
poll_told session gs i change new h e =
    (e.2 ∙ ap change_in (sym (found (tells session) gs i e.0 h e.1)), e.3 ∙ changed (tells session) told gs i e.0 h e.1)

for_session : (session : ℕ) (o : Option Change) → is_change_for session o ≡ true → IfSome o (λ change. change.consumer.session ≡ session)
for_session session None h = absurd cc
for_session session (Some change) h = eqb-true change.consumer.session session h

not_nothing : {A : Type 0} (session : ℕ) (o : Option Change) (new old : A) → is_change_for session o ≡ true → IfNone o (new ≡ old)
not_nothing session None new old h = absurd cc
not_nothing session (Some change) new old h = tt

told_there : (session : ℕ) (gs : List Seating) (i : ℕ) (change : Option Change) (new : List Seating) → position (tells session) gs ≡ Some i → TellsAt i gs change new → is_change_for session change ≡ true
told_there session gs i change new h e = ap (is_change_for session) e.2 ∙ ap (tells session) e.1 ∙ (position-Some (tells session) gs i e.0 h).1

pub poll_session : (session : ℕ) (gs : List Seating) (i : ℕ) (change : Option Change) (new : List Seating) → position (tells session) gs ≡ Some i → TellsAt i gs change new → IfSome change (λ c. c.consumer.session ≡ session)
poll_session session gs i change new h e = for_session session change (told_there session gs i change new h e)

pub poll_changed : {A : Type 0} (session : ℕ) (gs : List Seating) (i : ℕ) (change : Option Change) (new : List Seating) (a b : A) → position (tells session) gs ≡ Some i → TellsAt i gs change new → IfNone change (a ≡ b)
poll_changed session gs i change new a b h e = not_nothing session change a b (told_there session gs i change new h e)

pub state_none : (consumer : ConsumerId) (gs : List Seating) → position (sits consumer) gs ≡ None → None ≡ state_of gs consumer
state_none consumer gs h = ap (λ (o : Option Seating). state_at o consumer) (sym (missing (sits consumer) gs h))

pub state_there : (consumer : ConsumerId) (gs : List Seating) (i : ℕ) (g : Seating) → position (sits consumer) gs ≡ Some i → g ≡ slice_index_or gs i g → state_in g.seats consumer ≡ state_of gs consumer
state_there consumer gs i g h is = ap (λ (o : Option Seating). state_at o consumer) (sym (found (sits consumer) gs i g h is))

pub answer_none : (consumer : ConsumerId) (gs : List Seating) → position (sits consumer) gs ≡ None → (false ≡ is_awaited (state_of gs consumer)) × (gs ≡ replied consumer gs)
answer_none consumer gs h = (ap is_awaited (state_none consumer gs h), sym (unchanged (sits consumer) (answered consumer) gs h))

pub answer_there : (consumer : ConsumerId) (gs : List Seating) (i : ℕ) (awaited : Bool) (new : List Seating) → position (sits consumer) gs ≡ Some i → AnswersAt i consumer gs awaited new → (awaited ≡ is_awaited (state_of gs consumer)) × (new ≡ replied consumer gs)
answer_there consumer gs i awaited new h e =
    (e.2 ∙ ap is_awaited (state_there consumer gs i e.0 h e.1), e.3 ∙ changed (sits consumer) (answered consumer) gs i e.0 h e.1)

shut_state : (state : GroupState) → is_open state ≡ false → after_answer state ≡ state
shut_state Waiting h = refl
shut_state Starting h = absurd cc
shut_state Active h = refl
shut_state Stopping h = absurd cc

shut_by : (consumer : ConsumerId) (s : Seat) (seats more : List Seat) (b : Bool) → is_awaited (option_map (λ (s : Seat). s.state) (cond b (Some s) (find (seats_one consumer) seats))) ≡ false → (is_awaited (state_in seats consumer) ≡ false → more ≡ seats) →
    cond b (answered_seat s ∷ seats) (s ∷ more) ≡ s ∷ seats
shut_by consumer s seats more true h rest = ap (λ (state : GroupState). with_state state s ∷ seats) (shut_state s.state h)
shut_by consumer s seats more false h rest = ap (λ (l : List Seat). s ∷ l) (rest h)

shut : (consumer : ConsumerId) (seats : List Seat) → is_awaited (state_in seats consumer) ≡ false → at_first (seats_one consumer) answered_seat seats ≡ seats
shut consumer [] h = refl
shut consumer (s ∷ seats) h = shut_by consumer s seats (at_first (seats_one consumer) answered_seat seats) (seats_one consumer s) h (shut consumer seats)

pub answer_unchanged : (consumer : ConsumerId) (gs : List Seating) (i : ℕ) (awaited : Bool) (new : List Seating) → AnswersAt i consumer gs awaited new → IsTrue (not awaited) → new ≡ gs
answer_unchanged consumer gs i true new e h = absurd cc
answer_unchanged consumer gs i false new e h =
    let same : answered consumer e.0 ≡ e.0 = ap (λ (seats : List Seat). record e.0 { seats = seats }) (shut consumer e.0.seats (sym e.2)) in
    e.3 ∙ ap (slice_set gs i) same ∙ back gs i e.0 e.1

keep : (gs : List Seating) → All (λ g. 0 < length g.seats) gs → filter has_seats gs ≡ gs
keep [] all = refl
keep (g ∷ gs) all =
    let some : has_seats g ≡ true = let here : 0 < length g.seats = all 0 g (omega arith) in grind (arith, common_steps) in
    rw (some, keep gs (λ k d lt. all (suc k) d (omega arith))) refl

pub leave_none : (consumer : ConsumerId) (gs : List Seating) → position (sits consumer) gs ≡ None → All (λ g. 0 < length g.seats) gs → gs ≡ left consumer gs
leave_none consumer gs h all = sym (ap (filter has_seats) (unchanged (sits consumer) (without consumer) gs h) ∙ keep gs all)

pub leave_there : (consumer : ConsumerId) (gs : List Seating) (i : ℕ) (mid new : List Seating) → position (sits consumer) gs ≡ Some i → ChangesAt i (without consumer) gs mid → new ≡ filter has_seats mid → new ≡ left consumer gs
leave_there consumer gs i mid new h e f = f ∙ ap (filter has_seats) (e.2 ∙ changed (sits consumer) (without consumer) gs i e.0 h e.1)

pub join_there : (stream : ℕ) (name : Option (List ℕ)) (index : ℕ) (consumer : ConsumerId) (gs : List Seating) (i : ℕ) (new : List Seating) → position (is_of stream name) gs ≡ Some i → ChangesAt i (with_consumer consumer) gs new → new ≡ joined stream name index consumer gs
join_there stream name index consumer gs i new h e = rw (any (is_of stream name) gs i h) (e.2 ∙ changed (is_of stream name) (with_consumer consumer) gs i e.0 h e.1)

pub join_new : (stream : ℕ) (name : Option (List ℕ)) (index : ℕ) (consumer : ConsumerId) (gs : List Seating) (new : List Seating) → position (is_of stream name) gs ≡ None → new ≡ gs ++ with_consumer consumer (new_group stream name index) ∷ [] → new ≡ joined stream name index consumer gs
join_new stream name index consumer gs new h e = rw (none (is_of stream name) gs h) e

pub join_done : {A B : Type 0} (stream : ℕ) (name : Option (List ℕ)) (index : ℕ) (consumer : ConsumerId) (gs : List Seating) (i : ℕ) (new : List Seating) (r : Result A B) → position (is_of stream name) gs ≡ Some i →
    OnOk r (ChangesAt i (with_consumer consumer) gs new) → OnOk r (new ≡ joined stream name index consumer gs)
join_done stream name index consumer gs i new (Ok x) h e = join_there stream name index consumer gs i new h e
join_done stream name index consumer gs i new (Err x) h e = e

pub join_kept : {A B : Type 0} (stream : ℕ) (name : Option (List ℕ)) (consumer : ConsumerId) (gs : List Seating) (i : ℕ) (new : List Seating) (r : Result A B) → position (is_of stream name) gs ≡ Some i →
    OnOk r (ChangesAt i (with_consumer consumer) gs new) → OnErr r (new ≡ gs) → state_of gs consumer ≡ None → AreGroups gs → AreGroups new
join_kept stream name consumer gs i new (Ok x) h e f out are = rw (join_there stream name 0 consumer gs i new h e) (joined_are stream name 0 consumer gs out are)
join_kept stream name consumer gs i new (Err x) h e f out are = rw f are
