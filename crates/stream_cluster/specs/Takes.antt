-- What declarations, offers, stored offsets and confirms do to a stream.
use Rattle.std.specs.Prelude.{◌≡◌, ℕ, ◌≤◌, List, length, map, unwrap_or, Option, None, Result, Ok, Err}
use Rattle.std.specs.declared.alloc.AllocError.{AllocError}
use Rattle.std.specs.List.{Contains, AllByRecursion}
use Rattle.frame_wire.specs.declared.limits.Limits.{Limits}
use Rattle.chunk_format.specs.Logs.{end_of}
use Rattle.command_data.specs.declared.item.Tagged.{Tagged}
use Rattle.epoch_coordinator.specs.Members.{MemberState, sequence_of}
use Rattle.replication_laws.specs.Cluster.{ClusterState, member, put, RunsWith}
use Rattle.stream_terms.specs.declared.terms.Pass.{Pass}
use Rattle.stream_terms.specs.declared.terms.Given.{Given}
use Rattle.stream_terms.specs.declared.terms.Waits.{Waits}
use Rattle.stream_terms.specs.declared.terms.Taken.{Taken}
use Rattle.stream_terms.specs.declared.terms.Confirm.{Confirm}
use Rattle.stream_terms.specs.declared.terms.OfferFault.{OfferFault}
use Rattle.stream_terms.specs.declared.terms.OfferFault.TheVariants as refused
use Rattle.stream_terms.specs.Steps.{item_id, item_entry, IsOfUse, IsRunning, HandStep, confirm_of}
use Rattle.stream_passes.specs.Parts.{PassesState, parts_put}
use Rattle.leader_offers.specs.Adds.{OfferAdded, OfferRefused, OffsetAdded, OffsetRefused}
use Rattle.cluster_core.specs.Up.{running, leader_by}
use Rattle.cluster_core.specs.States.{ReplicaState}
use Rattle.stream_cluster.specs.Seats.{in_seat}
use Rattle.stream_cluster.specs.Served.{ServedState, served, parts_of, view_of}

-- ---- the leader of the epoch that runs

abbrev pub leader_of : ClusterState → ℕ
leader_of w = leader_by w.coordinator.phase

abbrev pub leading : ClusterState → MemberState
leading w = member w (leader_of w)

-- it changes, and all others stay
abbrev pub led_by : MemberState → ReplicaState → ReplicaState
led_by m r = record { cluster = put r.cluster (leader_of r.cluster) (in_seat m); numbers = r.numbers }

-- the epoch of the coordinator runs, with that leader open
abbrev pub RunsHere : ClusterState → Type 0
RunsHere w = (epoch : ℕ) × RunsWith w epoch (leader_of w)

-- ---- offers

-- what waits for the confirm of items that took a range
abbrev pub wait_of : Given → ℕ → ℕ → List Tagged → Waits
wait_of given from end items = record { given = given; from = from; end = end; ids = map item_id items; entries = map item_entry items }

-- Whatever a leader adds for an offer, all that waits ends at its end or before, and is of its epoch.
pub record GoesLast (limits : Limits) (m : MemberState) (given : Given) (items : List Tagged) (now : ℕ) (waiting : List Waits) : Type 0 where
  pub ends : (t : Taken) (n : MemberState) → OfferAdded limits m given.name items now t n → AllByRecursion (λ (x : Waits). x.end ≤ t.end) waiting
  pub epochs : AllByRecursion (λ (x : Waits). x.given.pass.epoch ≡ given.pass.epoch) waiting

-- What a leader and the passes are after an offer, while the list ends at an offset: with its chunks and what waits for its confirm, or as they were.
abbrev pub LeaderTakes : Limits → ℕ → Given → List Tagged → ℕ → Result Taken OfferFault → MemberState → MemberState → PassesState → PassesState → Type 0
LeaderTakes limits end given items now (Ok t) m n p q = OfferAdded limits m given.name items now t n × (q ≡ parts_put end (wait_of given (end_of (sequence_of m)) t.end items) p)
LeaderTakes limits end given items now (Err fault) m n p q = OfferRefused limits m given.name items now fault × ((n ≡ m) × (q ≡ p))

-- An offer is taken: exactly its chunks stand behind the leader's sequence, all others stay, and what waits for its confirm has their range.
pub record OfferMade (old : ServedState) (p : Pass) (items : List Tagged) (now : ℕ) (t : Taken) (new : ServedState) : Type 0 where
  pub useful : IsOfUse (view_of old) p
  -- the pass, with the name for which it was given
  pub given : Given
  pub known : Contains old.passes given
  pub passed : given.pass ≡ p
  pub short : length given.name ≤ 255
  pub leader : MemberState
  pub added : OfferAdded old.limits (leading old.state.cluster) given.name items now t leader
  pub new_is : new ≡ served old.limits (led_by leader old.state) (parts_put (end_of old.state.cluster.committed) (wait_of given (end_of (sequence_of (leading old.state.cluster))) t.end items) (parts_of old))

-- the pass is of use, and the leader refuses the offer for its name
pub record LeaderRefuses (old : ServedState) (p : Pass) (items : List Tagged) (now : ℕ) (fault : OfferFault) : Type 0 where
  pub useful : IsOfUse (view_of old) p
  pub given : Given
  pub known : Contains old.passes given
  pub passed : given.pass ≡ p
  pub refused : OfferRefused old.limits (leading old.state.cluster) given.name items now fault

-- Why an offer is refused: the pass was never given, or its epoch doesn't run; or the leader refuses it; or for want of memory.
abbrev pub OfferFails : ServedState → Pass → List Tagged → ℕ → OfferFault → Type 0
OfferFails old p items now (refused.Stale asked runs) = (asked ≡ p.epoch) × (runs ≡ unwrap_or (running old.state.cluster) 0) × (IsOfUse (view_of old) p → ⊥)
OfferFails old p items now (refused.BadName len) = ⊥
OfferFails old p items now (refused.EmptyBatch place) = LeaderRefuses old p items now (refused.EmptyBatch place)
OfferFails old p items now (refused.Limit what most) = LeaderRefuses old p items now (refused.Limit what most)
OfferFails old p items now refused.Memory = Unit {0}

abbrev pub OfferBrings : ServedState → Pass → List Tagged → ℕ → Result Taken OfferFault → ServedState → Type 0
OfferBrings old p items now (Ok t) new = OfferMade old p items now t new
OfferBrings old p items now (Err fault) new = OfferFails old p items now fault × (new ≡ old)

-- ---- stored offsets

-- An offset is taken: exactly its chunks stand behind the leader's sequence, and all else stays.
pub record OffsetMade (old : ServedState) (name : Option (List ℕ)) (offset now : ℕ) (t : Taken) (new : ServedState) : Type 0 where
  pub runs : IsRunning (view_of old)
  pub leader : MemberState
  pub added : OffsetAdded old.limits (leading old.state.cluster) name offset now t leader
  pub new_is : new ≡ served old.limits (led_by leader old.state) (parts_of old)

-- the epoch runs, and the leader refuses it
abbrev pub LeaderRefusesOffset : ServedState → Option (List ℕ) → ℕ → ℕ → OfferFault → Type 0
LeaderRefusesOffset old name offset now fault = IsRunning (view_of old) × OffsetRefused old.limits (leading old.state.cluster) name offset now fault

-- Why an offset is refused: no epoch runs; or the leader refuses it; or for want of memory.
abbrev pub OffsetFails : ServedState → Option (List ℕ) → ℕ → ℕ → OfferFault → Type 0
OffsetFails old name offset now (refused.Stale asked runs) = (asked ≡ 0) × (runs ≡ 0) × (running old.state.cluster ≡ None)
OffsetFails old name offset now (refused.BadName len) = LeaderRefusesOffset old name offset now (refused.BadName len)
OffsetFails old name offset now (refused.EmptyBatch place) = ⊥
OffsetFails old name offset now (refused.Limit what most) = LeaderRefusesOffset old name offset now (refused.Limit what most)
OffsetFails old name offset now refused.Memory = Unit {0}

abbrev pub OffsetBrings : ServedState → Option (List ℕ) → ℕ → ℕ → Result Taken OfferFault → ServedState → Type 0
OffsetBrings old name offset now (Ok t) new = OffsetMade old name offset now t new
OffsetBrings old name offset now (Err fault) new = OffsetFails old name offset now fault × (new ≡ old)

-- ---- confirms

-- exactly the ready ones of a session are handed out, in the order of their offers
pub record Hands (old : ServedState) (session : ℕ) (confirms : List Confirm) (new : ServedState) : Type 0 where
  pub out : List Waits
  pub step : HandStep (view_of old) session out (view_of new)
  pub confirms_are : confirms ≡ map confirm_of out
  pub state : new.state ≡ old.state
  pub limits : new.limits ≡ old.limits

abbrev pub ConfirmsGive : ServedState → ℕ → Result (List Confirm) AllocError → ServedState → Type 0
ConfirmsGive old session (Ok confirms) new = Hands old session confirms new
ConfirmsGive old session (Err e) new = new ≡ old
