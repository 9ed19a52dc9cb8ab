-- What happens to a stream: its events, one case each, and offers.
use Rattle.std.specs.Prelude.{◌≡◌, ℕ, zero, suc, ◌^◌, ◌<◌, ◌⊎◌, Bool, true, false, if◌then◌else◌, nat_lt, List, [], ◌∷◌, ◌++◌, length, Option, Some, None}
use Rattle.std.specs.List.{All}
use Rattle.chunk_format.specs.declared.chunk.Chunk.{Chunk}
use Rattle.chunk_format.specs.Chunks.{IsChunk}
use Rattle.chunk_format.specs.Logs.{end_of}
use Rattle.epoch_coordinator.specs.declared.message.Message.{Message}
use Rattle.epoch_coordinator.specs.declared.message.Message.TheVariants as messages
use Rattle.epoch_coordinator.specs.declared.message.Sent.{Sent}
use Rattle.epoch_coordinator.specs.declared.coordinator.Phase.TheVariants.{Idle}
use Rattle.epoch_coordinator.specs.declared.coordinator.StoppedDid.{StoppedDid}
use Rattle.epoch_coordinator.specs.declared.coordinator.StoppedDid.TheVariants as did
use Rattle.epoch_coordinator.specs.Tails.{runs_of}
use Rattle.epoch_coordinator.specs.Members.{MemberState, Stopped, sequence_of}
use Rattle.epoch_coordinator.specs.MemberSteps.{Took, taken, finished, offered, nudged, restarted, commit_end, cut_at, stamp_at}
use Rattle.epoch_coordinator.specs.Coordinators.{CoordinatorState, Hears, elect, begun, stop_all, stopped, opened_with, untold}
use Rattle.epoch_coordinator.specs.Coordinators as coordinators
use Rattle.epoch_coordinator.specs.Scripts.{opened}
use Rattle.epoch_coordinator.specs.Offers.{Item, offered_chunks, stored_chunks}
use Rattle.replication_laws.specs.Majorities.{flags_of}
use Rattle.replication_laws.specs.Cluster.{Seat, Reign, ClusterState, seat, member, IsMember, put, durable, last_number, send, letter_in, marked, without, Holds, MayPromise, RunsWith}

-- ---- commits

-- the committed list becomes the leader's log to its commit end, where that is longer
abbrev pub committed_by : List Chunk → MemberState → List Chunk
committed_by committed m = if nat_lt (end_of committed) (commit_end m) then cut_at (commit_end m) m.log else committed

-- what is due at a member is committed
abbrev pub commits : ℕ → ClusterState → ClusterState
commits k w = record w { committed = committed_by w.committed (member w k) }

-- ---- a member or the coordinator does something

-- a member that is up changes and sends, and what then is due at it is committed
abbrev pub took : ℕ → Took → ClusterState → ClusterState
took k t w = commits k (send (put w k (record { up = true; state = t.state })) t.sent)

-- an epoch that is opened is a reign, with the runs of the leader's log
abbrev pub reigns_after : StoppedDid → ClusterState → List Reign
reigns_after did.Later w = w.reigns
reigns_after did.Nothing w = w.reigns
reigns_after (did.Send1 sent) w = w.reigns
reigns_after (did.Opened epoch leader electors) w =
    record { epoch = epoch; leader = leader; electors = flags_of w.coordinator.members electors; runs = runs_of (member w leader).log } ∷ w.reigns

abbrev pub heard_by : Hears → ClusterState → ClusterState
heard_by h w = send (record w { coordinator = h.state; reigns = reigns_after h.answer w }) (opened h.state h.answer)

-- the coordinator takes Stopped alone
abbrev pub to_coordinator : Message → ClusterState → ClusterState
to_coordinator (messages.Stopped epoch from tail) w = heard_by (stopped epoch from tail w.coordinator) w
to_coordinator (messages.Stop epoch) w = w
to_coordinator (messages.Open epoch) w = w
to_coordinator (messages.Follow epoch leader) w = w
to_coordinator (messages.Shape epoch runs) w = w
to_coordinator (messages.Ask epoch from tail) w = w
to_coordinator (messages.Append epoch previous chunk) w = w

-- a message comes to a member, or to the coordinator, which is number 0
abbrev pub comes : ℕ → ℕ → Message → ClusterState → ClusterState
comes now zero message w = to_coordinator message w
comes now (suc i) message w = took (suc i) (taken now message (member w (suc i))) w

-- an epoch is durable
abbrev pub begins : Option ℕ → ClusterState → ClusterState
begins None w = w
begins (Some epoch) w = let c = begun epoch w.coordinator in send (record w { coordinator = c }) (stop_all c)

-- the pending job is done
abbrev pub performed : ℕ → ClusterState → ClusterState
performed zero w = begins w.coordinator.job w
performed (suc i) w = took (suc i) (finished (member w (suc i))) w

-- ---- stops, and what a disk has

abbrev pub goes_down : ℕ → ClusterState → ClusterState
goes_down zero w = record w { coordinator_up = false; coordinator = record w.coordinator { phase = Idle; told = untold w.coordinator.members } }
goes_down (suc i) w = put w (suc i) (record { up = false; state = record (member w (suc i)) { role = Stopped } })

abbrev pub comes_up : ℕ → ℕ → List Chunk → ClusterState → ClusterState
comes_up k promise log w = put w k (record { up = true; state = restarted (length w.seats) k promise log })

abbrev pub reopens : ℕ → ClusterState → ClusterState
reopens epoch w = record w { coordinator_up = true; coordinator = opened_with w.coordinator.members epoch }

-- ---- a nudge

abbrev pub nudges_by : Bool → List Sent → List Sent
nudges_by true sent = sent
nudges_by false sent = []

abbrev pub member_nudges : List Seat → List Sent
member_nudges [] = []
member_nudges (s ∷ seats) = nudges_by s.up (nudged s.state) ++ member_nudges seats

-- the coordinator sends first, then each member that is up, by number
abbrev pub nudges : ClusterState → List Sent
nudges w = nudges_by w.coordinator_up (coordinators.nudged w.coordinator) ++ member_nudges w.seats

-- ---- when an event may happen

-- a member that is up, or the coordinator
abbrev pub IsUp : ClusterState → ℕ → Type 0
IsUp w zero = w.coordinator_up ≡ true
IsUp w (suc i) = IsMember w (suc i) × ((seat w (suc i)).up ≡ true)

-- and has no job pending
abbrev pub IsFree : ClusterState → ℕ → Type 0
IsFree w zero = IsUp w zero × (w.coordinator.job ≡ None)
IsFree w (suc i) = IsUp w (suc i) × ((member w (suc i)).job ≡ None)

-- the epoch that the coordinator's disk may have
abbrev pub MayBegin : CoordinatorState → ℕ → Type 0
MayBegin c epoch = (epoch ≡ c.epoch) ⊎ (c.job ≡ Some epoch)

-- ---- the events

-- One event, at a moment in milliseconds.
pub data ClusterStep (now : ℕ) (w w' : ClusterState) : Type 0 where
  -- an election: the next epoch is to be made durable
  Elect : IsFree w 0 → durable w < last_number → w' ≡ record w { coordinator = (elect w.coordinator).state } → ClusterStep now w w'
  -- the message of a number comes to its receiver, and stays
  Deliver : (number : ℕ) (s : Sent) → letter_in number w.mail ≡ Some s → IsFree w s.to → w' ≡ comes now s.to s.message (record w { mail = marked number w.mail }) → ClusterStep now w w'
  -- one message is lost
  Lose : (number : ℕ) (s : Sent) → letter_in number w.mail ≡ Some s → w' ≡ record w { mail = without number w.mail } → ClusterStep now w w'
  -- all messages are forgotten, and numbers begin again
  Forget : w' ≡ record w { mail = []; last = 0 } → ClusterStep now w w'
  Nudge : w' ≡ send w (nudges w) → ClusterStep now w w'
  -- a job that was pending is done
  Done : (k : ℕ) → IsUp w k → w' ≡ performed k w → ClusterStep now w w'
  Stop : (k : ℕ) → IsUp w k → w' ≡ goes_down k w → ClusterStep now w w'
  -- a member comes up with a log and a promise that its disk may have
  Restart : (k promise : ℕ) (log : List Chunk) → IsMember w k → (seat w k).up ≡ false → Holds (member w k) log → MayPromise (member w k) promise → w' ≡ comes_up k promise log w → ClusterStep now w w'
  -- the coordinator comes up, idle, with an epoch that its disk may have
  Reopen : (epoch : ℕ) → w.coordinator_up ≡ false → MayBegin w.coordinator epoch → w' ≡ reopens epoch w → ClusterStep now w w'

-- ---- offers

-- a leader takes chunks, one after the other
abbrev pub all_offered : List Chunk → MemberState → MemberState
all_offered [] m = m
all_offered (c ∷ chunks) m = all_offered chunks (offered c m)

-- chunks go behind the sequence of a member that is up
abbrev pub gets : ℕ → List Chunk → ClusterState → ClusterState
gets k chunks w = put w k (record { up = true; state = all_offered chunks (member w k) })

-- what is offered: a name of at most 255 bytes, and ids below 2 ^ 64
pub record IsOffer (name : List ℕ) (items : List Item) : Type 0 where
  pub name_fits : length name < 2 ^ 8
  pub ids_fit : All (λ (item : Item). item.id < 2 ^ 64) items

-- What the open leader of the running epoch takes, at a moment in milliseconds. Its chunks have a spelling.
pub data OfferStep (now : ℕ) (w w' : ClusterState) : Type 0 where
  -- items of a publisher, whose name is empty where it has none
  Offer : (epoch k : ℕ) (name : List ℕ) (items : List Item) → RunsWith w epoch k → IsOffer name items
      → All IsChunk (offered_chunks epoch (stamp_at now) name (sequence_of (member w k)) items)
      → w' ≡ gets k (offered_chunks epoch (stamp_at now) name (sequence_of (member w k)) items) w → OfferStep now w w'
  -- a consumer's stored offset
  StoreOffset : (epoch k : ℕ) (name : List ℕ) (offset : ℕ) → RunsWith w epoch k
      → All IsChunk (stored_chunks epoch (stamp_at now) name offset (sequence_of (member w k)))
      → w' ≡ gets k (stored_chunks epoch (stamp_at now) name offset (sequence_of (member w k))) w → OfferStep now w w'

-- an event or an offer
pub data AnyStep (w w' : ClusterState) : Type 0 where
  Happens : (now : ℕ) → ClusterStep now w w' → AnyStep w w'
  Takes : (now : ℕ) → OfferStep now w w' → AnyStep w w'

-- one after the other
abbrev pub Steps : ClusterState → List ClusterState → Type 0
Steps w [] = Unit {0}
Steps w (x ∷ xs) = AnyStep w x × Steps x xs
