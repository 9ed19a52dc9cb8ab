-- A leader takes an offer, at its place.
use Rattle.std.proofs.Common.{◌≡◌, ℕ, suc, ◌-◌, ◌<◌, ◌≤◌, Bool, true, false, List, [], ◌∷◌, length, slice_set, slice_index_or, Option, Some, None, Result, Ok, Err, refl, sym, ap, subst, ◌∙◌, arith}
use Rattle.frame_wire.specs.declared.limits.Limits.{Limits}
use Rattle.chunk_format.specs.declared.chunk.Chunk.{Chunk}
use Rattle.chunk_format.specs.Logs.{end_of}
use Rattle.command_data.specs.declared.item.Tagged.{Tagged}
use Rattle.epoch_coordinator.specs.declared.message.Job.{Job}
use Rattle.epoch_coordinator.specs.Members.{MemberRole, MemberState, Leading, Stopped, Follower, Leader, sequence_of}
use Rattle.epoch_coordinator.specs.MemberSteps.{offered, offered_by, queued_by}
use Rattle.epoch_coordinator.specs.Coordinators.{CoordinatorState}
use Rattle.replication_laws.specs.Cluster.{Seat, nobody, seat_in, placed, is_opened}
use Rattle.member_core.specs.declared.back.Mark.{Mark}
use Rattle.member_core.specs.States.{IsOpen, Marks, offered_all, taken_back}
use Rattle.stream_terms.specs.declared.terms.Given.{Given}
use Rattle.stream_terms.specs.declared.terms.Waits.{Waits}
use Rattle.stream_terms.specs.declared.terms.Taken.{Taken}
use Rattle.stream_terms.specs.declared.terms.OfferFault.{OfferFault}
use Rattle.stream_terms.specs.declared.terms.OfferFault.TheVariants as refused
use Rattle.stream_passes.specs.Parts.{PassesState, parts_put}
use Rattle.stream_passes.specs.Keeps.{IsLast}
use Rattle.leader_offers.specs.Adds.{OfferAdded, OfferRefused, OffsetGives, offer_adds}
use Rattle.cluster_core.specs.declared.mail.Numbered.{Numbered}
use Rattle.cluster_core.specs.States.{ReplicaState, cluster_of, state_of, seat_of}
use Rattle.stream_cluster.specs.Seats.{in_seat}
use Rattle.stream_cluster.specs.Takes.{leader_of, leading, led_by, wait_of, RunsHere, GoesLast, LeaderTakes}

-- ---- an opened leader stays one

queued_open : (job : Option Job) (c : Chunk) (l : Leading) (m : MemberState) → IsOpen m.role → m.role ≡ Leader l → IsOpen (queued_by job c l m).role
queued_open None c l m o is = o
queued_open (Some job) c l m o is = subst IsOpen is o

offered_open : (role : MemberRole) (c : Chunk) (m : MemberState) → m.role ≡ role → IsOpen role → IsOpen (offered_by role c m).role
offered_open Stopped c m is o = absurd o
offered_open (Follower leader) c m is o = absurd o
offered_open (Leader l) c m is o = queued_open m.job c l m (subst IsOpen (sym is) o) is

all_open : (chunks : List Chunk) (m : MemberState) → IsOpen m.role → IsOpen (offered_all chunks m).role
all_open [] m o = o
all_open (c ∷ chunks) m o = all_open chunks (offered c m) (offered_open m.role c m refl o)

open_as : (role : MemberRole) → is_opened role ≡ true → IsOpen role
open_as Stopped h = absurd (cc h)
open_as (Follower leader) h = absurd (cc h)
open_as (Leader l) h = h

-- ---- the leader alone

renamed : (limits : Limits) (m : MemberState) (name name' : List ℕ) (items : List Tagged) (now : ℕ) (t : Taken) (n : MemberState) → name ≡ name' → OfferAdded limits m name items now t n → OfferAdded limits m name' items now t n
renamed limits m name name' items now t n is a = subst (λ (x : List ℕ). OfferAdded limits m x items now t n) is a

module _ (limits : Limits) (end : ℕ) (given : Given) (items : List Tagged) (now : ℕ) (m n : MemberState) (p : PassesState) (name : List ℕ) (is : name ≡ given.name) where
  pub put_last : (t : Taken) (from : ℕ) → OfferAdded limits m name items now t n → GoesLast limits m given items now p.waiting → IsLast p.waiting (wait_of given from t.end items)
  put_last t from a last = record { ends = last.ends t n (renamed limits m name given.name items now t n is a); epochs = last.epochs }

  pub took : (t : Taken) (from : ℕ) (q : PassesState) → from ≡ end_of (sequence_of m) → OfferAdded limits m name items now t n → q ≡ parts_put end (wait_of given from t.end items) p → LeaderTakes limits end given items now (Ok t) m n p q
  took t from q from_is a q_is = (renamed limits m name given.name items now t n is a, q_is ∙ ap (λ (x : ℕ). parts_put end (wait_of given x t.end items) p) from_is)

  pub took_none : (fault : OfferFault) → OfferRefused limits m name items now fault → n ≡ m → LeaderTakes limits end given items now (Err fault) m n p p
  took_none fault why same = (subst (λ (x : List ℕ). OfferRefused limits m x items now fault) is why, (same, refl))

  pub still_open : (t : Taken) → OfferAdded limits m name items now t n → IsOpen m.role → IsOpen n.role
  still_open t a o = subst (λ (x : MemberState). IsOpen x.role) (sym a.added.state) (all_open (offer_adds m name items now) m o)

  pub still_marked : (t : Taken) (mark : Mark) → OfferAdded limits m name items now t n → ((chunks : List Chunk) → Marks mark (offered_all chunks m)) → Marks mark n
  still_marked t mark a marks = subst (Marks mark) (sym a.added.state) (marks (offer_adds m name items now))

  pub gave_back : (t : Taken) (mark : Mark) (o : MemberState) (q : PassesState) → OfferAdded limits m name items now t n → ((chunks : List Chunk) → taken_back mark (offered_all chunks m) ≡ m) → o ≡ taken_back mark n → q ≡ p → LeaderTakes limits end given items now (Err refused.Memory) m o p q
  gave_back t mark o q a back o_is q_is = (tt, (o_is ∙ ap (taken_back mark) a.added.state ∙ back (offer_adds m name items now), q_is))

-- ---- at its place

pub up_is : (up : Bool) (m : MemberState) (old : Seat) → seat_of up m ≡ old → old.up ≡ true → up ≡ true
up_is up m old view u = ap (λ (s : Seat). s.up) view ∙ u

pub state_is : (up : Bool) (m : MemberState) → up ≡ true → (seat_of up m).state ≡ m
state_is false m u = absurd (cc u)
state_is true m u = refl

pub old_is : (up : Bool) (m : MemberState) (old : Seat) → seat_of up m ≡ old → old.up ≡ true → old.state ≡ m
old_is up m old view u = sym (ap (λ (s : Seat). s.state) view) ∙ state_is up m (up_is up m old view u)

pub seat_is : (s : Seat) → s.up ≡ true → s ≡ in_seat s.state
seat_is s u = ap (λ (b : Bool). record { up = b; state = s.state }) u

pub at_seat : (P : MemberState → MemberState → Type 0) (up : Bool) (m n : MemberState) (old : Seat) → seat_of up m ≡ old → old.up ≡ true → P m n → P old.state (seat_of up n).state
at_seat P up m n old view u h = subst (λ (x : MemberState). P x (seat_of up n).state) (sym (old_is up m old view u)) (subst (P m) (sym (state_is up n (up_is up m old view u))) h)

-- ---- among the members

module _ (seats seats' : List Seat) (up : Bool) (co : CoordinatorState) (mail : List Numbered) (last : ℕ) (committed : List Chunk) (numbers : List ℕ) (r : ReplicaState) (view : state_of seats up co mail last committed numbers ≡ r) (runs : RunsHere r.cluster) (leader place : ℕ) (leader_is : leader ≡ leader_of r.cluster) (place_is : place ≡ leader - 1) where
  seats_are : seats ≡ r.cluster.seats
  seats_are = ap (λ (x : ReplicaState). x.cluster.seats) view

  pub some_leader : 1 ≤ leader
  some_leader = let some = runs.1.is_member.0 in omega (arith, some, leader_is)

  next_place : leader_of r.cluster ≡ suc place
  next_place = let some = runs.1.is_member.0 in omega (arith, some, leader_is, place_is)

  pub is_there : place < length seats
  is_there = let few = runs.1.is_member.1 in let count = ap length seats_are in let next = next_place in omega (arith, few, count, next)

  pub at_place : seat_in r.cluster.seats (leader_of r.cluster) ≡ slice_index_or seats place nobody
  at_place = ap (seat_in r.cluster.seats) next_place ∙ ap (λ (l : List Seat). slice_index_or l place nobody) (sym seats_are)

  pub is_up_there : (slice_index_or seats place nobody).up ≡ true
  is_up_there = subst (λ (s : Seat). s.up ≡ true) at_place runs.1.leader_up

  pub is_open_there : IsOpen (slice_index_or seats place nobody).state.role
  is_open_there = subst (λ (s : Seat). IsOpen s.state.role) at_place (open_as (leading r.cluster).role runs.1.is_open)

  pub goes_last_there : (limits : Limits) (given : Given) (items : List Tagged) (now : ℕ) (waiting : List Waits) → GoesLast limits (leading r.cluster) given items now waiting → GoesLast limits (slice_index_or seats place nobody).state given items now waiting
  goes_last_there limits given items now waiting h = subst (λ (s : Seat). GoesLast limits s.state given items now waiting) at_place h

  led_at : (m : MemberState) → seats' ≡ slice_set seats place (in_seat m) → state_of seats' up co mail last committed numbers ≡ led_by m r
  led_at m is =
      let here : leader_of (cluster_of seats up co mail last committed) ≡ suc place = subst (λ (x : ReplicaState). leader_of x.cluster ≡ suc place) (sym view) next_place in
      ap (λ (l : List Seat). state_of l up co mail last committed numbers) (is ∙ ap (λ (k : ℕ). placed k (in_seat m) seats) (sym here)) ∙ ap (led_by m) view

  pub leader_took : (limits : Limits) (end : ℕ) (given : Given) (items : List Tagged) (now : ℕ) (res : Result Taken OfferFault) (p q : PassesState) → end ≡ end_of r.cluster.committed
      → (m : MemberState) × LeaderTakes limits end given items now res (slice_index_or seats place nobody).state m p q × (seats' ≡ slice_set seats place (in_seat m))
      → (m : MemberState) × LeaderTakes limits (end_of r.cluster.committed) given items now res (leading r.cluster) m p q × (state_of seats' up co mail last committed numbers ≡ led_by m r)
  leader_took limits end given items now res p q end_is h =
      (h.0, subst (λ (e : ℕ). LeaderTakes limits e given items now res (leading r.cluster) h.0 p q) end_is (subst (λ (s : Seat). LeaderTakes limits end given items now res s.state h.0 p q) (sym at_place) h.1), led_at h.0 h.2)

  pub leader_stored : (limits : Limits) (name : Option (List ℕ)) (offset now : ℕ) (res : Result Taken OfferFault)
      → (m : MemberState) × OffsetGives limits (slice_index_or seats place nobody).state name offset now res m × (seats' ≡ slice_set seats place (in_seat m))
      → (m : MemberState) × OffsetGives limits (leading r.cluster) name offset now res m × (state_of seats' up co mail last committed numbers ≡ led_by m r)
  leader_stored limits name offset now res h = (h.0, subst (λ (s : Seat). OffsetGives limits s.state name offset now res h.0) (sym at_place) h.1, led_at h.0 h.2)
