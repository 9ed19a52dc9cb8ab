-- While nobody joins or leaves, a group comes to rest: its wanted consumer is active.
use Rattle.std.specs.Prelude.{◌≡◌, ◌+◌, ℕ, zero, suc, false, List, [], ◌∷◌, Option, Some, None, slice_get, if◌then◌else◌}
use Rattle.std.specs.List.{list_any}
use Rattle.active_groups.specs.declared.consumer.GroupState.TheVariants.{Active}
use Rattle.active_groups.specs.declared.consumer.Seat.{Seat}
use Rattle.active_groups.specs.Seating.{Seating, is_open}
use Rattle.active_groups.specs.Changes.{wanted, tells}
use Rattle.active_groups.specs.Steps.{GroupEvent, Joins, Leaves, Polls, Answers, GroupStep, joined, left, polled, replied}

-- a poll or an answer
abbrev pub IsTurn : GroupEvent → Type 0
IsTurn (Joins stream name index consumer) = ⊥
IsTurn (Leaves consumer) = ⊥
IsTurn (Polls session change) = Unit {0}
IsTurn (Answers consumer awaited) = Unit {0}

-- polls and answers alone, one after the other
abbrev pub TurnsRun : List Seating → List GroupEvent → List Seating → Type 0
TurnsRun old [] new = new ≡ old
TurnsRun old (event ∷ events) new = IsTurn event × ((mid : List Seating) × GroupStep old event mid × TurnsRun mid events new)

-- 1 where a poll of this session tells the group at this place, else 0
abbrev pub told_at : ℕ → List Seating → ℕ → ℕ
told_at session [] place = 0
told_at session (g ∷ gs) zero = if tells session g then 1 else 0
told_at session (g ∷ gs) (suc place) = if tells session g then 0 else told_at session gs place

-- how many changes these polls and answers tell the group at this place
abbrev pub changes_in : List Seating → List GroupEvent → ℕ → ℕ
changes_in gs [] place = 0
changes_in gs (Joins stream name index consumer ∷ events) place = changes_in (joined stream name index consumer gs) events place
changes_in gs (Leaves consumer ∷ events) place = changes_in (left consumer gs) events place
changes_in gs (Polls session change ∷ events) place = told_at session gs place + changes_in (polled session gs) events place
changes_in gs (Answers consumer awaited ∷ events) place = changes_in (replied consumer gs) events place

-- no answer of a consumer is awaited
abbrev pub IsCalm : Seating → Type 0
IsCalm g = list_any (λ (s : Seat). is_open s.state) g.seats ≡ false

abbrev pub IsActiveSeat : Option Seat → Type 0
IsActiveSeat None = ⊥
IsActiveSeat (Some s) = s.state ≡ Active

abbrev pub IsSettled : Seating → Type 0
IsSettled g = IsActiveSeat (slice_get g.seats (wanted g))
