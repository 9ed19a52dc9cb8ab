-- The members of a stream, its coordinator, what is on its way between them, and the committed list.
use Rattle.std.specs.Prelude.{◌≡◌, ℕ, zero, suc, ◌+◌, ◌<◌, ◌≤◌, ◌⊎◌, ◌==◌, Bool, true, false, if◌then◌else◌, nat_lt, List, [], ◌∷◌, ◌++◌, length, Option, Some, None, slice_index_or, slice_set}
use Rattle.chunk_format.specs.declared.chunk.Chunk.{Chunk}
use Rattle.chunk_format.specs.Logs.{GoesOn, end_of}
use Rattle.epoch_coordinator.specs.declared.tail.Run.{Run}
use Rattle.epoch_coordinator.specs.declared.message.Job.{Job}
use Rattle.epoch_coordinator.specs.declared.message.Job.TheVariants.{Write, Cut, Promise, Epoch}
use Rattle.epoch_coordinator.specs.declared.message.Sent.{Sent}
use Rattle.epoch_coordinator.specs.declared.coordinator.Phase.TheVariants.{Running}
use Rattle.epoch_coordinator.specs.Tails.{has_run}
use Rattle.epoch_coordinator.specs.Members.{MemberRole, MemberState, Stopped, Follower, Leader}
use Rattle.epoch_coordinator.specs.Coordinators.{CoordinatorState}

-- A member, and whether it is up. Of one that is down it is what its disk may have: its job is the one that was cut off.
pub record Seat : Type 0 where
  pub up : Bool
  pub state : MemberState

-- a message on its way; it stays until it is lost or forgotten, also after it was delivered
pub record Letter : Type 0 where
  pub number : ℕ
  pub delivered : Bool
  pub sent : Sent

-- an epoch with its leader, a flag for each member, by number from 1 on, whether it is an elector, and the runs of the leader's log when it was chosen
pub record Reign : Type 0 where
  pub epoch : ℕ
  pub leader : ℕ
  pub electors : List Bool
  pub runs : List Run

pub record ClusterState : Type 0 where
  -- the members, by number from 1 on
  pub seats : List Seat
  -- whether the coordinator is up
  pub coordinator_up : Bool
  -- of one that is down its job is the one that was cut off
  pub coordinator : CoordinatorState
  -- the reigns, the latest first
  pub reigns : List Reign
  pub mail : List Letter
  -- the number of the last message that got one
  pub last : ℕ
  -- the committed list
  pub committed : List Chunk

-- ---- members

abbrev pub nobody : Seat
nobody = record { up = false; state = record { number = 0; members = 0; promise = 0; role = Stopped; log = []; job = None } }

abbrev pub seat_in : List Seat → ℕ → Seat
seat_in seats zero = nobody
seat_in seats (suc i) = slice_index_or seats i nobody

abbrev pub seat : ClusterState → ℕ → Seat
seat w k = seat_in w.seats k

abbrev pub member : ClusterState → ℕ → MemberState
member w k = (seat w k).state

-- members are numbered from 1 on
abbrev pub IsMember : ClusterState → ℕ → Type 0
IsMember w k = (0 < k) × (k ≤ length w.seats)

abbrev pub placed : ℕ → Seat → List Seat → List Seat
placed zero s seats = seats
placed (suc i) s seats = slice_set seats i s

-- one member is another
abbrev pub put : ClusterState → ℕ → Seat → ClusterState
put w k s = record w { seats = placed k s w.seats }

-- the durable epoch of the coordinator
abbrev pub durable : ClusterState → ℕ
durable w = w.coordinator.epoch

-- ---- reigns

abbrev pub reign_in : List Reign → ℕ → Option Reign
reign_in [] epoch = None
reign_in (r ∷ rs) epoch = if r.epoch == epoch then Some r else reign_in rs epoch

-- the reign of an epoch
abbrev pub reign : ClusterState → ℕ → Option Reign
reign w epoch = reign_in w.reigns epoch

-- runs have an epoch with an end of at least this one
abbrev pub InRuns : List Run → ℕ → ℕ → Type 0
InRuns runs epoch end = has_run runs (record { epoch = epoch; end = end }) ≡ true

-- ---- messages

-- the greatest number of a message
abbrev pub last_number : ℕ
last_number = 18446744073709551615

-- messages are numbered on in order; what would pass the greatest number is lost
abbrev pub numbered : ℕ → List Sent → List Letter
numbered last [] = []
numbered last (s ∷ more) = if nat_lt last last_number then record { number = last + 1; delivered = false; sent = s } ∷ numbered (last + 1) more else []

abbrev pub send : ClusterState → List Sent → ClusterState
send w sent = record w { mail = w.mail ++ numbered w.last sent; last = w.last + length (numbered w.last sent) }

-- the message of a number
abbrev pub letter_in : ℕ → List Letter → Option Sent
letter_in number [] = None
letter_in number (l ∷ more) = if l.number == number then Some l.sent else letter_in number more

-- it was delivered
abbrev pub marked : ℕ → List Letter → List Letter
marked number [] = []
marked number (l ∷ more) = if l.number == number then record l { delivered = true } ∷ more else l ∷ marked number more

-- without it
abbrev pub without : ℕ → List Letter → List Letter
without number [] = []
without number (l ∷ more) = if l.number == number then more else l ∷ without number more

-- ---- holdings

-- The logs that a disk may have, with a job that is pending or was cut off: a Write is done or not, and a Cut is done, or not, or in part.
abbrev pub HoldsBy : Option Job → List Chunk → List Chunk → Type 0
HoldsBy None log held = held ≡ log
HoldsBy (Some (Write c)) log held = (held ≡ log) ⊎ (held ≡ log ++ c ∷ [])
HoldsBy (Some (Cut end)) log held = GoesOn held log × (end ≤ end_of held)
HoldsBy (Some (Promise epoch)) log held = held ≡ log
HoldsBy (Some (Epoch epoch)) log held = held ≡ log

-- the logs that the disk of a member may have
abbrev pub Holds : MemberState → List Chunk → Type 0
Holds m held = HoldsBy m.job m.log held

-- the promise that its disk may have
abbrev pub MayPromise : MemberState → ℕ → Type 0
MayPromise m promise = (promise ≡ m.promise) ⊎ (m.job ≡ Some (Promise promise))

-- ---- the running epoch

abbrev pub is_opened : MemberRole → Bool
is_opened Stopped = false
is_opened (Follower leader) = false
is_opened (Leader l) = l.opened

-- an epoch runs with an open leader: the coordinator runs it, and its leader is up and is the opened leader of it
pub record RunsWith (w : ClusterState) (epoch leader : ℕ) : Type 0 where
  pub coordinated : w.coordinator_up ≡ true
  pub phase : w.coordinator.phase ≡ Running leader
  pub epoch_is : w.coordinator.epoch ≡ epoch
  pub is_member : IsMember w leader
  pub leader_up : (seat w leader).up ≡ true
  pub promised : (member w leader).promise ≡ epoch
  pub is_open : is_opened (member w leader).role ≡ true
