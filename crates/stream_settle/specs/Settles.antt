-- How a stream settles over its disks.
use Rattle.std.specs.Prelude.{◌≡◌, ℕ, suc, ◌<◌, ◌≤◌, Bool, true, false, ◌&&◌, List, [], ◌∷◌, length, Option, None, is_some, slice_index_or}
use Rattle.disk_calls.specs.Disk.{DiskState}
use Rattle.disk_calls.specs.Frames.{Besides, OtherStreams}
use Rattle.gated_words.specs.InHand.{InHand}
use Rattle.gated_words.specs.Files.{second_file}
use Rattle.gated_words.specs.Backing.{Backs}
use Rattle.segment_store.specs.declared.fault.StoreFault.TheVariants as faults
use Rattle.replication_laws.specs.Cluster.{ClusterState, member}
use Rattle.settling_laws.specs.Settling.{Stage, Jobs, Letters, turn, Settling, next_job}
use Rattle.member_stores.specs.declared.fault.WorkFault.{WorkFault}
use Rattle.member_stores.specs.declared.fault.WorkFault.TheVariants.{NoStore, Apart, Store}
use Rattle.member_stores.specs.declared.shelf.Shelf.{Shelf}
use Rattle.member_stores.specs.Shelves.{shelf_of, BackedShelf}
use Rattle.stream_cluster.specs.Leads.{is_member_up}
use Rattle.stream_cluster.specs.Served.{ServedState, Moves}
use Rattle.stream_settle.specs.declared.settled.Settled.{Settled}
use Rattle.stream_settle.specs.declared.settled.Settled.TheVariants as settled

-- ---- the stream

-- one move after the other, for those that use it
abbrev pub MovesBy : ServedState → List ServedState → Type 0
MovesBy s [] = Unit {0}
MovesBy s (x ∷ xs) = Moves s x × MovesBy x xs

abbrev pub last_of : ServedState → List ServedState → ServedState
last_of s [] = s
last_of s (x ∷ xs) = last_of x xs

pub record Moving (old new : ServedState) : Type 0 where
  pub states : List ServedState
  pub moves : MovesBy old states
  pub ends : last_of old states ≡ new

-- A settle that began with a stream has come so far: its steps lead there, and each is one move.
pub record Progress (now : ℕ) (stage : Stage) (old new : ServedState) : Type 0 where
  pub steps : Settling now (turn Jobs old.state.cluster) (turn stage new.state.cluster)
  pub moving : Moving old new

-- its number and the count of its members stay
pub record SameStream (old new : ServedState) : Type 0 where
  pub number : new.number ≡ old.number
  pub seats : length new.state.cluster.seats ≡ length old.state.cluster.seats

-- whatever came before, the settle comes from one to the other by steps, and from one stage to another
pub record Leads (now : ℕ) (from to : Stage) (old new : ServedState) : Type 0 where
  pub on : (start : ServedState) → Progress now from start old → Progress now to start new

-- before the nudge and behind it
pub record Advances (now : ℕ) (old new : ServedState) : Type 0 where
  pub before : Leads now Jobs Jobs old new
  pub behind : Leads now Letters Letters old new

-- an event happened, or nothing changed
pub record TurnedBy (P : Type 0) (result : Settled) (old new : ServedState) : Type 0 where
  pub did : result ≡ settled.Did → P
  pub moved : result ≡ settled.Did → Moves old new
  pub number : new.number ≡ old.number
  pub memory : result ≡ settled.Memory → new ≡ old

-- no job is pending and no message is there, and numbering begins at 1
pub record IsAtRest (w : ClusterState) : Type 0 where
  pub jobs : next_job w ≡ None
  pub mail : w.mail ≡ []
  pub last : w.last ≡ 0

-- a member is there and up and has a job
abbrev pub is_busy_at : ℕ → ClusterState → Bool
is_busy_at k w = is_member_up w k && is_some (member w k).job

-- ---- its disks, the coordinator's first, and what is in hand of them

pub record Around (D : Type 0) : Type 0 where
  pub disks : List D
  pub epochs : InHand
  pub shelves : List (Option Shelf)

abbrev pub around : {D : Type 0} → List D → InHand → List (Option Shelf) → Around D
around disks epochs shelves = record { disks = disks; epochs = epochs; shelves = shelves }

-- the disk of a number
pub record IsDisk {D : Type 0} (disks : List D) (k : ℕ) (d : D) : Type 0 where
  pub there : k < length disks
  pub is : d ≡ slice_index_or disks k d

-- each disk is what is in hand of it
pub record AllInHand {D : Type 0} (state : D → DiskState) (a : Around D) : Type 0 where
  pub epochs : (d : D) → IsDisk a.disks 0 d → Backs a.epochs (state d)
  pub shelves : (i : ℕ) (d : D) → IsDisk a.disks (suc i) d → BackedShelf (shelf_of (suc i) a.shelves) (state d)

-- The disks stay as many, only files of the stream and those of the epochs change, and no count of faults falls.
pub record DisksGo {D : Type 0} (state : D → DiskState) (stream : ℕ) (old new : Around D) : Type 0 where
  pub count : length new.disks ≡ length old.disks
  pub id : new.epochs.id ≡ old.epochs.id
  pub epochs : (d e : D) → IsDisk old.disks 0 d → IsDisk new.disks 0 e → Besides old.epochs.id (second_file old.epochs.id) (state d) (state e)
  pub members : (i : ℕ) (d e : D) → IsDisk old.disks (suc i) d → IsDisk new.disks (suc i) e → OtherStreams stream (state d) (state e)
  pub faults : (k : ℕ) (d e : D) → IsDisk old.disks k d → IsDisk new.disks k e → (state d).faults ≤ (state e).faults

-- a stream of at most 7 members, and its disks are what is in hand of them
pub record Ready {D : Type 0} (tells : Type 0) (state : D → DiskState) (s : ServedState) (a : Around D) : Type 0 where
  pub few : length s.state.cluster.seats ≤ 7
  pub in_hand : tells → AllInHand state a

-- a part of a settle
pub record Goes {D : Type 0} (tells : Type 0) (state : D → DiskState) (Way : ServedState → ServedState → Type 0) (old new : ServedState) (a b : Around D) : Type 0 where
  pub way : Way old new
  pub same : SameStream old new
  pub disks : DisksGo state old.number a b
  pub in_hand : tells → AllInHand state b

-- ---- faults

abbrev pub is_memory : WorkFault → Bool
is_memory NoStore = false
is_memory Apart = false
is_memory (Store faults.Disk) = false
is_memory (Store (faults.Damaged segment at)) = false
is_memory (Store (faults.DamagedWords place)) = false
is_memory (Store faults.Memory) = true
