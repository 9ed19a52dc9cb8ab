-- The steps of groups: a consumer joins or leaves, a session polls, a consumer answers. Groups stand in the order of their making.
use Rattle.std.specs.Prelude.{◌≡◌, ◌==◌, ◌≤◌, ◌<◌, ℕ, Bool, false, not, List, [], ◌∷◌, ◌++◌, length, Option, Some, None, filter, count_by, sum_by, slice_index_or, slice_set, if◌then◌else◌}
use Rattle.std.specs.List.{All, list_any, find}
use Rattle.active_groups.specs.declared.consumer.ConsumerId.{ConsumerId}
use Rattle.active_groups.specs.declared.consumer.GroupState.{GroupState}
use Rattle.active_groups.specs.declared.consumer.GroupState.TheVariants.{Waiting}
use Rattle.active_groups.specs.declared.consumer.Change.{Change}
use Rattle.active_groups.specs.Seating.{Seating, is_of, sits, seats_one, state_in, state_of, is_open, AtMostOne}
use Rattle.active_groups.specs.Changes.{at_first, change_of, told, answered, tells}

-- ---- joining and leaving

-- a consumer joins a group: it waits, behind the others
abbrev pub with_consumer : ConsumerId → Seating → Seating
with_consumer consumer g = record g { seats = g.seats ++ record { consumer = consumer; state = Waiting } ∷ [] }

abbrev pub new_group : ℕ → Option (List ℕ) → ℕ → Seating
new_group stream name index = record { stream = stream; name = name; index = index; seats = [] }

-- into the group of that stream and name, or into a new one with that index
abbrev pub joined : ℕ → Option (List ℕ) → ℕ → ConsumerId → List Seating → List Seating
joined stream name index consumer gs =
    if list_any (is_of stream name) gs then at_first (is_of stream name) (with_consumer consumer) gs
    else gs ++ with_consumer consumer (new_group stream name index) ∷ []

abbrev pub without : ConsumerId → Seating → Seating
without consumer g = record g { seats = filter (λ s. not (seats_one consumer s)) g.seats }

abbrev pub has_seats : Seating → Bool
has_seats g = not (length g.seats == 0)

-- out of its group, which goes with its last consumer
abbrev pub left : ConsumerId → List Seating → List Seating
left consumer gs = filter has_seats (at_first (sits consumer) (without consumer) gs)

-- ---- changes and answers

abbrev pub change_in : Option Seating → Option Change
change_in None = None
change_in (Some g) = change_of g

-- the change of the first group that has one for a consumer of this session
abbrev pub first_change : ℕ → List Seating → Option Change
first_change session gs = change_in (find (tells session) gs)

abbrev pub polled : ℕ → List Seating → List Seating
polled session gs = at_first (tells session) told gs

abbrev pub is_awaited : Option GroupState → Bool
is_awaited None = false
is_awaited (Some state) = is_open state

-- the groups once a consumer answered
abbrev pub replied : ConsumerId → List Seating → List Seating
replied consumer gs = at_first (sits consumer) (answered consumer) gs

-- ---- the steps

pub data GroupEvent : Type 0 where
  -- a consumer joins: stream, name, index
  Joins : ℕ → Option (List ℕ) → ℕ → ConsumerId → GroupEvent
  Leaves : ConsumerId → GroupEvent
  -- a session polls, and is given a change or none
  Polls : ℕ → Option Change → GroupEvent
  -- a consumer answers, and whether its answer was awaited
  Answers : ConsumerId → Bool → GroupEvent

abbrev pub GroupStep : List Seating → GroupEvent → List Seating → Type 0
GroupStep old (Joins stream name index consumer) new = new ≡ joined stream name index consumer old
GroupStep old (Leaves consumer) new = new ≡ left consumer old
GroupStep old (Polls session change) new = (change ≡ first_change session old) × (new ≡ polled session old)
GroupStep old (Answers consumer awaited) new = (awaited ≡ is_awaited (state_of old consumer)) × (new ≡ replied consumer old)

-- ---- one group of all

abbrev pub ChangesAt : ℕ → (Seating → Seating) → List Seating → List Seating → Type 0
ChangesAt place f old new = (g : Seating) × (g ≡ slice_index_or old place g) × (new ≡ slice_set old place (f g))

abbrev pub TellsAt : ℕ → List Seating → Option Change → List Seating → Type 0
TellsAt place old change new = (g : Seating) × (g ≡ slice_index_or old place g) × (change ≡ change_of g) × (new ≡ slice_set old place (told g))

abbrev pub AnswersAt : ℕ → ConsumerId → List Seating → Bool → List Seating → Type 0
AnswersAt place consumer old awaited new =
    (g : Seating) × (g ≡ slice_index_or old place g) × (awaited ≡ is_awaited (state_in g.seats consumer)) × (new ≡ slice_set old place (answered consumer g))

-- ---- what holds of all groups

-- how often a consumer sits in a group
abbrev pub places_of : ConsumerId → Seating → ℕ
places_of consumer g = count_by (seats_one consumer) g.seats

pub record AreGroups (gs : List Seating) : Type 0 where
  -- of each group's consumers at most one is not waiting
  pub one_busy : All (λ g. AtMostOne g.seats) gs
  -- no group is empty
  pub seated : All (λ g. 0 < length g.seats) gs
  -- no consumer sits at two places
  pub once : (consumer : ConsumerId) → sum_by (places_of consumer) gs ≤ 1
  -- no two are of one stream and name
  pub one_each : (stream : ℕ) (name : Option (List ℕ)) → count_by (is_of stream name) gs ≤ 1
