-- Groups of consumers: who sits where, in which state.
use Rattle.std.specs.Prelude.{◌==◌, ◌≤◌, ℕ, Bool, true, false, ◌&&◌, List, Option, Some, None, count_by}
use Rattle.std.specs.List.{list_any, find}
use Rattle.std.specs.Option.{option_map, option_eq}
use Rattle.std.specs.Cmp.Lexicographic.{pointwise}
use Rattle.active_groups.specs.declared.consumer.ConsumerId.{ConsumerId}
use Rattle.active_groups.specs.declared.consumer.GroupState.{GroupState}
use Rattle.active_groups.specs.declared.consumer.GroupState.TheVariants.{Waiting, Starting, Active, Stopping}
use Rattle.active_groups.specs.declared.consumer.Seat.{Seat}

-- a group: its stream, its name, its place in a super stream, and its consumers in the order of joining
pub record Seating : Type 0 where
  pub stream : ℕ
  pub name : Option (List ℕ)
  pub index : ℕ
  pub seats : List Seat

-- ---- names

abbrev pub same_bytes : List ℕ → List ℕ → Bool
same_bytes a b = pointwise (λ x y. x == y) a b

abbrev pub same_text : Option (List ℕ) → Option (List ℕ) → Bool
same_text a b = option_eq same_bytes a b

abbrev pub is_of : ℕ → Option (List ℕ) → Seating → Bool
is_of stream name g = (g.stream == stream) && same_text g.name name

-- ---- consumers

abbrev pub same_consumer : ConsumerId → ConsumerId → Bool
same_consumer a b = (a.session == b.session) && (a.serial == b.serial)

abbrev pub seats_one : ConsumerId → Seat → Bool
seats_one consumer s = same_consumer s.consumer consumer

-- a consumer is in this group
abbrev pub sits : ConsumerId → Seating → Bool
sits consumer g = list_any (seats_one consumer) g.seats

-- the state of a consumer among these
abbrev pub state_in : List Seat → ConsumerId → Option GroupState
state_in seats consumer = option_map (λ (s : Seat). s.state) (find (seats_one consumer) seats)

abbrev pub state_at : Option Seating → ConsumerId → Option GroupState
state_at None consumer = None
state_at (Some g) consumer = state_in g.seats consumer

-- the state of a consumer, None where it is in no group
abbrev pub state_of : List Seating → ConsumerId → Option GroupState
state_of gs consumer = state_at (find (sits consumer) gs) consumer

-- ---- states

abbrev pub is_busy : GroupState → Bool
is_busy Waiting = false
is_busy Starting = true
is_busy Active = true
is_busy Stopping = true

abbrev pub is_active : GroupState → Bool
is_active Waiting = false
is_active Starting = false
is_active Active = true
is_active Stopping = false

-- it was told, and has not answered
abbrev pub is_open : GroupState → Bool
is_open Waiting = false
is_open Starting = true
is_open Active = false
is_open Stopping = true

-- at most one consumer is not waiting
abbrev pub AtMostOne : List Seat → Type 0
AtMostOne seats = count_by (λ (s : Seat). is_busy s.state) seats ≤ 1
