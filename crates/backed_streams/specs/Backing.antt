-- How the disks of a stream belong to its members and its coordinator.
use Rattle.std.specs.Prelude.{◌≡◌, ◌≢◌, ℕ, ◌<◌, ◌≤◌, Bool, true, List, length}
use Rattle.disk_calls.specs.Disk.{DiskState}
use Rattle.chunk_format.specs.declared.chunk.Chunk.{Chunk}
use Rattle.chunk_format.specs.Logs.{GoesOn}
use Rattle.segment_pairs.specs.Held.{EachLog}
use Rattle.epoch_coordinator.specs.Members.{MemberState}
use Rattle.epoch_coordinator.specs.Coordinators.{CoordinatorState}
use Rattle.replication_laws.specs.Majorities.{IsMajority, is_voter}
use Rattle.replication_laws.specs.Cluster.{Seat, ClusterState, seat, member, seat_in, IsMember, Holds, MayPromise}
use Rattle.replication_laws.specs.Events.{MayBegin}
use Rattle.segment_store.specs.Words.{epochs_file, EachWord}
use Rattle.segment_store.specs.Stores.{StoreInHand, BackedStore, EachPromise, promise_of}

-- ---- one disk

-- each image of a member's disk has a log and a promise that the disk may have, also with a job that is pending or was cut off
pub record BackedMember (stream : ℕ) (m : MemberState) (s : DiskState) : Type 0 where
  pub log : EachLog stream (Holds m) s
  pub promise : EachPromise stream (MayPromise m) s

-- each image of the coordinator's disk has an epoch of the stream that the disk may have
abbrev pub BackedEpoch : ℕ → CoordinatorState → DiskState → Type 0
BackedEpoch stream c s = EachWord epochs_file stream (MayBegin c) s

-- a store in hand is that of a member: the disk is what is in hand, with the member's log and its promise
pub record IsInHand (stream : ℕ) (m : MemberState) (store : StoreInHand) (s : DiskState) : Type 0 where
  pub stream_is : store.stream ≡ stream
  pub member_is : store.member ≡ m.number
  pub backed : BackedStore store m.log s
  pub promised : promise_of store ≡ m.promise

-- ---- all disks of a stream

-- of what is numbered only the one of a number changes
abbrev pub OthersStay : {A : Type 0} → ℕ → (ℕ → A) → (ℕ → A) → Type 0
OthersStay k old new = (j : ℕ) → j ≢ k → new j ≡ old j

-- each member's disk, by number from 1 on, and that of the coordinator, number 0
pub record BackedBy (stream : ℕ) (seats : List Seat) (c : CoordinatorState) (disks : ℕ → DiskState) : Type 0 where
  pub members : (k : ℕ) → 0 < k → k ≤ length seats → BackedMember stream (seat_in seats k).state (disks k)
  pub epoch : BackedEpoch stream c (disks 0)

-- The disks belong to the stream.
abbrev pub Backed : ℕ → ClusterState → (ℕ → DiskState) → Type 0
Backed stream w disks = BackedBy stream w.seats w.coordinator disks

-- of each member that is up the store is in hand
abbrev pub AllInHand : ℕ → ClusterState → (ℕ → StoreInHand) → (ℕ → DiskState) → Type 0
AllInHand stream w stores disks = (k : ℕ) → IsMember w k → (seat w k).up ≡ true → IsInHand stream (member w k) (stores k) (disks k)

-- More than half of the disks of so many members keep a list: the log of each of their images begins with it.
pub record Durable (members stream : ℕ) (list : List Chunk) (disks : ℕ → DiskState) : Type 0 where
  pub voters : List Bool
  pub most : IsMajority members voters
  pub keeps : (k : ℕ) → is_voter voters k ≡ true → EachLog stream (GoesOn list) (disks k)
