-- How many changes a group has still to be told, while nobody joins or leaves: two at most, and each poll that tells it takes one.
use Rattle.std.proofs.Common.{◌≡◌, ◌≤◌, ◌<◌, ◌==◌, ◌%◌, ℕ, zero, suc, ◌+◌, Bool, true, false, cond, List, [], ◌∷◌, length, Option, Some, None, count_by, position, slice_get, refl, sym, ap, subst, ◌∙◌, zero-add, arith}
use Rattle.std.specs.List.{All, list_any, position_or_len}
use Rattle.std.specs.Option.{option_map}
use Rattle.std.proofs.lemmas.Bool.{eqb-true}
use Rattle.std.proofs.lemmas.Grind.{common_steps}
use Rattle.active_groups.specs.declared.consumer.ConsumerId.{ConsumerId}
use Rattle.active_groups.specs.declared.consumer.GroupState.{GroupState}
use Rattle.active_groups.specs.declared.consumer.GroupState.TheVariants.{Waiting, Starting, Active, Stopping}
use Rattle.active_groups.specs.declared.consumer.Seat.{Seat}
use Rattle.active_groups.specs.declared.consumer.Change.{Change}
use Rattle.active_groups.specs.Seating.{Seating, sits, seats_one, is_busy, is_active, is_open, AtMostOne}
use Rattle.active_groups.specs.Changes.{at_place, at_first, wanted, turn_of, change_for, change_as, change_of, told_as, told, is_change_for, tells, with_state, answered_seat, answered}
use Rattle.active_groups.specs.Steps.{GroupEvent, Joins, Leaves, Polls, Answers, polled, replied, AreGroups}
use Rattle.active_groups.specs.Settling.{TurnsRun, told_at, changes_in, IsCalm, IsActiveSeat, IsSettled}
use Rattle.active_groups.proofs.Places.{there, nowhere}
use Rattle.active_groups.proofs.Kept.{same_first, length-at_first, length-at_place, none_active, head-All, tail-All, polled_are, answered_are}

-- it is active, or was told to be
pub leads : GroupState → Bool
leads Waiting = false
leads Starting = true
leads Active = true
leads Stopping = false

abbrev seat_leads : Seat → Bool
seat_leads s = leads s.state

abbrev lead_at : Option Seat → Bool
lead_at None = false
lead_at (Some s) = leads s.state

-- by whether the wanted one leads, and how many lead
abbrev turns : Bool → ℕ → ℕ
turns true n = 0
turns false zero = 1
turns false (suc n) = 2

abbrev turns_left : Seating → ℕ
turns_left g = turns (lead_at (slice_get g.seats (wanted g))) (count_by seat_leads g.seats)

two_at_most : (b : Bool) (n : ℕ) → turns b n ≤ 2
two_at_most true n = omega arith
two_at_most false zero = omega arith
two_at_most false (suc n) = omega arith

none_left : (b : Bool) (n : ℕ) → turns b n ≡ 0 → b ≡ true
none_left true n h = refl
none_left false zero h = absurd (omega arith)
none_left false (suc n) h = absurd (omega arith)

-- ---- states

active_leads : (state : GroupState) → is_active state ≡ true → leads state ≡ true
unfolding leads
active_leads Waiting h = absurd cc
active_leads Starting h = absurd cc
active_leads Active h = refl
active_leads Stopping h = absurd cc

lead_busy : (state : GroupState) → leads state ≡ true → is_busy state ≡ true
unfolding leads
lead_busy Waiting h = absurd cc
lead_busy Starting h = refl
lead_busy Active h = refl
lead_busy Stopping h = absurd cc

calm_leads : (state : GroupState) → is_open state ≡ false → leads state ≡ is_active state
unfolding leads
calm_leads Waiting h = refl
calm_leads Starting h = absurd cc
calm_leads Active h = refl
calm_leads Stopping h = absurd cc

is_it : (state : GroupState) → is_active state ≡ true → state ≡ Active
is_it Waiting h = absurd cc
is_it Starting h = absurd cc
is_it Active h = refl
is_it Stopping h = absurd cc

answer_leads : (state : GroupState) (c : ConsumerId) → seat_leads (answered_seat (record { consumer = c; state = state })) ≡ leads state
unfolding leads
answer_leads Waiting c = refl
answer_leads Starting c = refl
answer_leads Active c = refl
answer_leads Stopping c = refl

starting_leads : leads Starting ≡ true
unfolding leads
starting_leads = refl

stopping_not : leads Stopping ≡ false
unfolding leads
stopping_not = refl

-- ---- seats

busy_more : (seats : List Seat) → count_by seat_leads seats ≤ count_by (λ (s : Seat). is_busy s.state) seats
busy_more [] = omega arith
busy_more (s ∷ seats) = grind (arith, common_steps, busy_more seats, lead_busy s.state)

calm_count : (seats : List Seat) → list_any (λ (s : Seat). is_open s.state) seats ≡ false → count_by seat_leads seats ≡ count_by (λ (s : Seat). is_active s.state) seats
calm_count [] h = refl
calm_count (s ∷ seats) h = grind (arith, common_steps, calm_count seats, calm_leads s.state)

no_lead : (seats : List Seat) (i : ℕ) → count_by seat_leads seats ≡ 0 → lead_at (slice_get seats i) ≡ false
no_lead [] i h = refl
no_lead (s ∷ seats) zero h = grind (arith, common_steps)
no_lead (s ∷ seats) (suc i) h = no_lead seats i (grind (arith, common_steps))

one_lead : (seats : List Seat) (i : ℕ) → lead_at (slice_get seats i) ≡ true → 1 ≤ count_by seat_leads seats
one_lead [] i h = absurd cc
one_lead (s ∷ seats) zero h = grind (arith, common_steps)
one_lead (s ∷ seats) (suc i) h = grind (arith, common_steps, one_lead seats i h)

two_leads : (seats : List Seat) (i j : ℕ) → lead_at (slice_get seats i) ≡ true → lead_at (slice_get seats j) ≡ true → (i ≡ j → ⊥) → 2 ≤ count_by seat_leads seats
two_leads [] i j h k ne = absurd cc
two_leads (s ∷ seats) zero zero h k ne = absurd (ne refl)
two_leads (s ∷ seats) zero (suc j) h k ne = grind (arith, common_steps, one_lead seats j k)
two_leads (s ∷ seats) (suc i) zero h k ne = grind (arith, common_steps, one_lead seats i h)
two_leads (s ∷ seats) (suc i) (suc j) h k ne = grind (arith, common_steps, two_leads seats i j h k (λ e. ne (ap suc e)))

starts_leading : (seats : List Seat) (i : ℕ) → i < length seats → lead_at (slice_get (at_place i (with_state Starting) seats) i) ≡ true
starts_leading [] i lt = absurd (omega arith)
starts_leading (s ∷ seats) zero lt = starting_leads
starts_leading (s ∷ seats) (suc i) lt = starts_leading seats i (omega arith)

one_less : (seats : List Seat) (i : ℕ) → lead_at (slice_get seats i) ≡ true → count_by seat_leads (at_place i (with_state Stopping) seats) + 1 ≡ count_by seat_leads seats
one_less [] i h = absurd cc
one_less (s ∷ seats) zero h = grind (arith, common_steps, stopping_not)
one_less (s ∷ seats) (suc i) h = grind (arith, common_steps, one_less seats i h)

abbrev active : Seat → Bool
active s = is_active s.state

active_first : (s : Seat) (seats : List Seat) (b : Bool) → is_active s.state ≡ b → (position_or_len active seats < length seats → IsActiveSeat (slice_get seats (position_or_len active seats))) →
    position_or_len active (s ∷ seats) < length (s ∷ seats) → IsActiveSeat (slice_get (s ∷ seats) (position_or_len active (s ∷ seats)))
active_first s seats true e rest lt = let first : position_or_len active (s ∷ seats) ≡ 0 = grind (arith, common_steps) in rw first (is_it s.state e)
active_first s seats false e rest lt =
    let later : position_or_len active (s ∷ seats) ≡ suc (position_or_len active seats) = grind (arith, common_steps) in
    rw later (rest (omega arith))

-- the first active one is active
active_at : (seats : List Seat) → position_or_len active seats < length seats → IsActiveSeat (slice_get seats (position_or_len active seats))
active_at [] lt = absurd (omega arith)
active_at (s ∷ seats) lt = active_first s seats (is_active s.state) refl (active_at seats) lt

active_there : (seats : List Seat) (i : ℕ) → position (λ (s : Seat). is_active s.state) seats ≡ Some i → IsActiveSeat (slice_get seats i)
active_there seats i h =
    let at = there (λ (s : Seat). is_active s.state) seats i h in
    subst (λ k. IsActiveSeat (slice_get seats k)) at.0 (active_at seats (rw at.0 at.1))

lead_of : (o : Option Seat) → IsActiveSeat o → lead_at o ≡ true
lead_of None h = absurd h
lead_of (Some s) h = active_leads s.state (ap is_active h)

-- ---- answering and telling

lead_first : (q : Seat → Bool) (seats : List Seat) (i : ℕ) → lead_at (slice_get (at_first q answered_seat seats) i) ≡ lead_at (slice_get seats i)
lead_first q [] i = refl
lead_first q (s ∷ seats) zero = grind (arith, common_steps, answer_leads s.state s.consumer)
lead_first q (s ∷ seats) (suc i) = grind (arith, common_steps, lead_first q seats i)

answered_turns : (consumer : ConsumerId) (g : Seating) → turns_left (answered consumer g) ≡ turns_left g
answered_turns consumer g =
    let seats = at_first (seats_one consumer) answered_seat g.seats in
    ap (λ n. turns (lead_at (slice_get seats (g.index % n))) (count_by seat_leads seats)) (length-at_first (seats_one consumer) answered_seat g.seats)
    ∙ ap (λ b. turns b (count_by seat_leads seats)) (lead_first (seats_one consumer) g.seats (wanted g))
    ∙ ap (turns (lead_at (slice_get g.seats (wanted g)))) (same_first seat_leads (seats_one consumer) answered_seat g.seats (λ s. answer_leads s.state s.consumer))

wanted_inside : (i n : ℕ) → 0 < n → i % n < n
wanted_inside i n some = omega arith

start_turns : (g : Seating) → list_any (λ (s : Seat). is_open s.state) g.seats ≡ false → position active g.seats ≡ None → 0 < length g.seats → 1 + turns_left (told_as g (Some (wanted g, true))) ≡ turns_left g
start_turns g calm nobody some =
    let seats = at_place (wanted g) (with_state Starting) g.seats in
    let none : count_by seat_leads g.seats ≡ 0 = calm_count g.seats calm ∙ none_active active g.seats (nowhere active g.seats nobody) in
    let starts : lead_at (slice_get seats (wanted g)) ≡ true = starts_leading g.seats (wanted g) (wanted_inside g.index (length g.seats) some) in
    rw (length-at_place (with_state Starting) g.seats (wanted g), starts, none, no_lead g.seats (wanted g) none) refl

not_true : (b : Bool) → (b ≡ true → ⊥) → b ≡ false
not_true true never = absurd (never refl)
not_true false never = refl

differs : (a b : ℕ) → (a == b) ≡ false → a ≡ b → ⊥
differs a b h e = grind arith

stop_turns : (g : Seating) (place : ℕ) → position active g.seats ≡ Some place → (place ≡ wanted g → ⊥) → AtMostOne g.seats → 1 + turns_left (told_as g (Some (place, false))) ≡ turns_left g
stop_turns g place h other one =
    let seats = at_place place (with_state Stopping) g.seats in
    let here : lead_at (slice_get g.seats place) ≡ true = lead_of (slice_get g.seats place) (active_there g.seats place h) in
    let less = one_less g.seats place here in
    let more = busy_more g.seats in
    let gone : count_by seat_leads seats ≡ 0 = omega arith in
    let alone : count_by seat_leads g.seats ≡ 1 = omega arith in
    let behind : lead_at (slice_get g.seats (wanted g)) ≡ false =
    not_true (lead_at (slice_get g.seats (wanted g))) (λ ahead. omega (arith, alone, two_leads g.seats place (wanted g) here ahead other)) in
    rw (length-at_place (with_state Stopping) g.seats place, gone, no_lead seats (wanted g) gone, alone, behind) refl

stop_by : (session : ℕ) (g : Seating) (place : ℕ) (b : Bool) → (place == wanted g) ≡ b → position active g.seats ≡ Some place → AtMostOne g.seats → is_change_for session (change_as g.seats (cond b None (Some (place, false)))) ≡ true →
    1 + turns_left (told_as g (cond b None (Some (place, false)))) ≡ turns_left g
stop_by session g place true e h one tell = absurd cc
stop_by session g place false e h one tell = stop_turns g place h (differs place (wanted g) e) one

turn_turns : (session : ℕ) (g : Seating) (o : Option ℕ) → position active g.seats ≡ o → list_any (λ (s : Seat). is_open s.state) g.seats ≡ false → AtMostOne g.seats → 0 < length g.seats → is_change_for session (change_as g.seats (turn_of g o)) ≡ true →
    1 + turns_left (told_as g (turn_of g o)) ≡ turns_left g
turn_turns session g None e calm one some tell = let seated : (length g.seats == 0) ≡ false = grind arith in rw seated (start_turns g calm e some)
turn_turns session g (Some place) e calm one some tell = stop_by session g place (place == wanted g) refl e one tell

told_by : (session : ℕ) (g : Seating) (b : Bool) → list_any (λ (s : Seat). is_open s.state) g.seats ≡ b → AtMostOne g.seats → 0 < length g.seats → is_change_for session (change_as g.seats (cond b None (turn_of g (position active g.seats)))) ≡ true →
    1 + turns_left (told_as g (cond b None (turn_of g (position active g.seats)))) ≡ turns_left g
told_by session g true e one some tell = absurd cc
told_by session g false e one some tell = turn_turns session g (position active g.seats) refl e one some tell

told_turns : (session : ℕ) (g : Seating) → AtMostOne g.seats → 0 < length g.seats → tells session g ≡ true → 1 + turns_left (told g) ≡ turns_left g
told_turns session g one some tell = told_by session g (list_any (λ (s : Seat). is_open s.state) g.seats) refl one some tell

-- ---- where there is nothing to tell

seat_there : (f : Seat → Change) (seats : List Seat) (i : ℕ) → i < length seats → option_map f (slice_get seats i) ≡ None → ⊥
seat_there f [] i lt h = omega arith
seat_there f (s ∷ seats) zero lt h = absurd cc
seat_there f (s ∷ seats) (suc i) lt h = seat_there f seats i (omega arith) h

active_told : (f : Seat → Change) (o : Option Seat) → IsActiveSeat o → option_map f o ≡ None → ⊥
active_told f None here h = here
active_told f (Some s) here h = absurd cc

settled_by : (g : Seating) (place : ℕ) (b : Bool) → (place == wanted g) ≡ b → IsActiveSeat (slice_get g.seats place) → change_as g.seats (cond b None (Some (place, false))) ≡ None → IsSettled g
settled_by g place true e here h = subst (λ k. IsActiveSeat (slice_get g.seats k)) (eqb-true place (wanted g) e) here
settled_by g place false e here h = absurd (active_told (change_for false) (slice_get g.seats place) here h)

settled_turn : (g : Seating) (o : Option ℕ) → position active g.seats ≡ o → 0 < length g.seats → change_as g.seats (turn_of g o) ≡ None → IsSettled g
settled_turn g None e some h =
    let seated : (length g.seats == 0) ≡ false = grind arith in
    absurd (seat_there (change_for true) g.seats (wanted g) (wanted_inside g.index (length g.seats) some) (rw seated at h))
settled_turn g (Some place) e some h = settled_by g place (place == wanted g) refl (active_there g.seats place e) h

pub settled : (g : Seating) → 0 < length g.seats → IsCalm g → change_of g ≡ None → IsSettled g
settled g some calm h = settled_turn g (position active g.seats) refl some (rw calm at h)

calm_active : (seats : List Seat) (i : ℕ) → list_any (λ (s : Seat). is_open s.state) seats ≡ false → lead_at (slice_get seats i) ≡ true → IsActiveSeat (slice_get seats i)
calm_active [] i calm h = absurd cc
calm_active (s ∷ seats) zero calm h = let shut : is_open s.state ≡ false = grind (arith, common_steps) in is_it s.state (sym (calm_leads s.state shut) ∙ h)
calm_active (s ∷ seats) (suc i) calm h = calm_active seats i (grind (arith, common_steps)) h

-- ---- all groups

abbrev turns_at : List Seating → ℕ → ℕ
turns_at [] place = 0
turns_at (g ∷ gs) zero = turns_left g
turns_at (g ∷ gs) (suc place) = turns_at gs place

turns_there : (gs : List Seating) (place : ℕ) (g : Seating) → slice_get gs place ≡ Some g → turns_at gs place ≡ turns_left g
turns_there [] place g h = absurd cc
turns_there (x ∷ gs) zero g h = let e : x ≡ g = cc in ap turns_left e
turns_there (x ∷ gs) (suc place) g h = turns_there gs place g h

few_turns : (gs : List Seating) (place : ℕ) → turns_at gs place ≤ 2
few_turns [] place = omega arith
few_turns (g ∷ gs) zero = two_at_most (lead_at (slice_get g.seats (wanted g))) (count_by seat_leads g.seats)
few_turns (g ∷ gs) (suc place) = few_turns gs place

poll_first : (session : ℕ) (g : Seating) (gs more : List Seating) (b : Bool) → (b ≡ true → 1 + turns_left (told g) ≡ turns_left g) → cond b 1 0 + turns_at (cond b (told g ∷ gs) (g ∷ more)) zero ≡ turns_left g
poll_first session g gs more true here = here refl
poll_first session g gs more false here = omega arith

poll_later : (session : ℕ) (g : Seating) (gs more : List Seating) (place : ℕ) (b : Bool) → told_at session gs place + turns_at more place ≡ turns_at gs place →
    cond b 0 (told_at session gs place) + turns_at (cond b (told g ∷ gs) (g ∷ more)) (suc place) ≡ turns_at gs place
poll_later session g gs more place true rest = omega arith
poll_later session g gs more place false rest = rest

poll_turns : (session : ℕ) (gs : List Seating) (place : ℕ) → All (λ g. AtMostOne g.seats) gs → All (λ g. 0 < length g.seats) gs → told_at session gs place + turns_at (polled session gs) place ≡ turns_at gs place
poll_turns session [] place one some = omega arith
poll_turns session (g ∷ gs) zero one some =
    poll_first session g gs (polled session gs) (tells session g) (λ tell. told_turns session g (head-All (λ g. AtMostOne g.seats) g gs one) (head-All (λ g. 0 < length g.seats) g gs some) tell)
poll_turns session (g ∷ gs) (suc place) one some =
    poll_later session g gs (polled session gs) place (tells session g) (poll_turns session gs place (tail-All (λ g. AtMostOne g.seats) g gs one) (tail-All (λ g. 0 < length g.seats) g gs some))

answer_first : (consumer : ConsumerId) (g : Seating) (gs more : List Seating) (b : Bool) → turns_at (cond b (answered consumer g ∷ gs) (g ∷ more)) zero ≡ turns_left g
answer_first consumer g gs more true = answered_turns consumer g
answer_first consumer g gs more false = refl

answer_later : (consumer : ConsumerId) (g : Seating) (gs more : List Seating) (place : ℕ) (b : Bool) → turns_at more place ≡ turns_at gs place → turns_at (cond b (answered consumer g ∷ gs) (g ∷ more)) (suc place) ≡ turns_at gs place
answer_later consumer g gs more place true rest = refl
answer_later consumer g gs more place false rest = rest

answer_turns : (consumer : ConsumerId) (gs : List Seating) (place : ℕ) → turns_at (replied consumer gs) place ≡ turns_at gs place
answer_turns consumer [] place = refl
answer_turns consumer (g ∷ gs) zero = answer_first consumer g gs (replied consumer gs) (sits consumer g)
answer_turns consumer (g ∷ gs) (suc place) = answer_later consumer g gs (replied consumer gs) place (sits consumer g) (answer_turns consumer gs place)

run_turns : (events : List GroupEvent) (old new : List Seating) (place : ℕ) → AreGroups old → TurnsRun old events new → changes_in old events place + turns_at new place ≡ turns_at old place
run_turns [] old new place are run = zero-add (turns_at new place) ∙ ap (λ gs. turns_at gs place) run
run_turns (Joins stream name index consumer ∷ events) old new place are run = absurd run.0
run_turns (Leaves consumer ∷ events) old new place are run = absurd run.0
run_turns (Polls session change ∷ events) old new place are run =
    let rest = subst (λ gs. TurnsRun gs events new) run.1.1.1 run.1.2 in
    omega (arith, run_turns events (polled session old) new place (polled_are session old are) rest, poll_turns session old place are.one_busy are.seated)
run_turns (Answers consumer awaited ∷ events) old new place are run =
    let rest = subst (λ gs. TurnsRun gs events new) run.1.1.1 run.1.2 in
    omega (arith, run_turns events (replied consumer old) new place (answered_are consumer old are) rest, answer_turns consumer old place)

pub at_most_two : (events : List GroupEvent) (old new : List Seating) (place : ℕ) → AreGroups old → TurnsRun old events new → changes_in old events place ≤ 2
at_most_two events old new place are run = omega (arith, run_turns events old new place are run, few_turns old place)

pub after_two : (events : List GroupEvent) (old new : List Seating) (place : ℕ) (g : Seating) → AreGroups old → TurnsRun old events new → slice_get new place ≡ Some g → changes_in old events place ≡ 2 → IsCalm g → IsSettled g
after_two events old new place g are run there two calm =
    let none : turns_left g ≡ 0 = omega (arith, run_turns events old new place are run, few_turns old place, turns_there new place g there) in
    calm_active g.seats (wanted g) calm (none_left (lead_at (slice_get g.seats (wanted g))) (count_by seat_leads g.seats) none)
