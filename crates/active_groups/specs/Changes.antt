-- What a group's next change is, and what telling and answering make of it.
use Rattle.std.specs.Prelude.{◌==◌, ℕ, zero, suc, ◌%◌, Bool, true, false, List, [], ◌∷◌, length, Option, Some, None, position, slice_get, if◌then◌else◌}
use Rattle.std.specs.List.{list_any}
use Rattle.std.specs.Option.{option_map}
use Rattle.active_groups.specs.declared.consumer.ConsumerId.{ConsumerId}
use Rattle.active_groups.specs.declared.consumer.GroupState.{GroupState}
use Rattle.active_groups.specs.declared.consumer.GroupState.TheVariants.{Waiting, Starting, Active, Stopping}
use Rattle.active_groups.specs.declared.consumer.Seat.{Seat}
use Rattle.active_groups.specs.declared.consumer.Change.{Change}
use Rattle.active_groups.specs.Seating.{Seating, seats_one, is_active, is_open}

-- the item at a place is changed
abbrev pub at_place : {A : Type 0} → ℕ → (A → A) → List A → List A
at_place n f [] = []
at_place zero f (x ∷ xs) = f x ∷ xs
at_place (suc n) f (x ∷ xs) = x ∷ at_place n f xs

-- the first item that passes is changed
abbrev pub at_first : {A : Type 0} → (A → Bool) → (A → A) → List A → List A
at_first p f [] = []
at_first p f (x ∷ xs) = if p x then f x ∷ xs else x ∷ at_first p f xs

-- the place of the wanted consumer, counted from 0
abbrev pub wanted : Seating → ℕ
wanted g = g.index % length g.seats

-- where the active one is, if any, who is to be told: another one than the wanted is to stop, and where none is active the wanted one is to start
abbrev pub turn_of : Seating → Option ℕ → Option (ℕ × Bool)
turn_of g None = if length g.seats == 0 then None else Some (wanted g, true)
turn_of g (Some place) = if place == wanted g then None else Some (place, false)

-- the place of the consumer that is to be told, and whether it is to be active; nobody is told while an answer is awaited
abbrev pub change_at : Seating → Option (ℕ × Bool)
change_at g = if list_any (λ (s : Seat). is_open s.state) g.seats then None else turn_of g (position (λ (s : Seat). is_active s.state) g.seats)

abbrev pub change_for : Bool → Seat → Change
change_for active s = record { consumer = s.consumer; active = active }

abbrev pub change_as : List Seat → Option (ℕ × Bool) → Option Change
change_as seats None = None
change_as seats (Some p) = option_map (change_for p.1) (slice_get seats p.0)

-- the change of a group
abbrev pub change_of : Seating → Option Change
change_of g = change_as g.seats (change_at g)

abbrev pub with_state : GroupState → Seat → Seat
with_state state s = record s { state = state }

abbrev pub told_as : Seating → Option (ℕ × Bool) → Seating
told_as g None = g
told_as g (Some p) = record g { seats = at_place p.0 (with_state (if p.1 then Starting else Stopping)) g.seats }

-- the group once its change was told
abbrev pub told : Seating → Seating
told g = told_as g (change_at g)

abbrev pub after_answer : GroupState → GroupState
after_answer Waiting = Waiting
after_answer Starting = Active
after_answer Active = Active
after_answer Stopping = Waiting

abbrev pub answered_seat : Seat → Seat
answered_seat s = with_state (after_answer s.state) s

-- the group once a consumer answered
abbrev pub answered : ConsumerId → Seating → Seating
answered consumer g = record g { seats = at_first (seats_one consumer) answered_seat g.seats }

abbrev pub is_change_for : ℕ → Option Change → Bool
is_change_for session None = false
is_change_for session (Some change) = change.consumer.session == session

-- the group's change is for a consumer of this session
abbrev pub tells : ℕ → Seating → Bool
tells session g = is_change_for session (change_of g)
