-- A stream that is opened over what disks had.
use Rattle.std.specs.Prelude.{◌≡◌, ℕ, ◌+◌, ◌<◌, ◌≤◌, ◌≢◌, true, nat_le, if◌then◌else◌, List, [], ◌∷◌, ◌++◌, length, slice_index_or}
use Rattle.chunk_format.specs.declared.chunk.Chunk.{Chunk}
use Rattle.chunk_format.specs.Logs.{GoesOn, end_of, last_epoch, IsLog}
use Rattle.epoch_coordinator.specs.MemberSteps.{has_epoch, restarted}
use Rattle.epoch_coordinator.specs.Coordinators.{opened_with}
use Rattle.replication_laws.specs.Cluster.{Seat, ClusterState, member, last_number, Holds, MayPromise}
use Rattle.replication_laws.specs.Events.{MayBegin}

-- what the disk of a member had
pub record Start : Type 0 where
  pub promise : ℕ
  pub log : List Chunk

abbrev pub no_start : Start
no_start = record { promise = 0; log = [] }

-- the start of the i-th, counted from 0
abbrev pub start_at : List Start → ℕ → Start
start_at starts i = slice_index_or starts i no_start

-- so many members, numbered on from a first one
abbrev pub start_seats : ℕ → ℕ → List Start → List Seat
start_seats members number [] = []
start_seats members number (s ∷ more) = record { up = true; state = restarted members number s.promise s.log } ∷ start_seats members (number + 1) more

-- the first state: all are up and stopped, and nothing is committed
abbrev pub opened_cluster : ℕ → List Start → ClusterState
opened_cluster epoch starts = record {
  seats = start_seats (length starts) 1 starts;
  coordinator_up = true;
  coordinator = opened_with (length starts) epoch;
  reigns = [];
  mail = [];
  last = 0;
  committed = [];
}

-- the beginning of a log whose chunks have an epoch of at most e
abbrev pub upto : ℕ → List Chunk → List Chunk
upto e [] = []
upto e (c ∷ cs) = if nat_le c.epoch e then c ∷ upto e cs else []

-- ---- the tests of an opening

-- the chunks are contiguous from 0, their epochs don't fall and don't pass the promise, and the promise isn't above the epoch
pub record IsWhole (epoch : ℕ) (s : Start) : Type 0 where
  pub is_log : IsLog s.log
  pub below : last_epoch s.log ≤ s.promise
  pub not_ahead : s.promise ≤ epoch

-- two logs hold different chunks at an offset, and both have a chunk of one epoch there or later
pub record Diverges (a b : List Chunk) (offset : ℕ) : Type 0 where
  pub front : List Chunk
  pub x : Chunk
  pub y : Chunk
  pub xs : List Chunk
  pub ys : List Chunk
  pub a_is : a ≡ front ++ x ∷ xs
  pub b_is : b ≡ front ++ y ∷ ys
  pub at : end_of front ≡ offset
  pub differ : x ≢ y
  pub epoch : ℕ
  pub in_a : has_epoch epoch (x ∷ xs) ≡ true
  pub in_b : has_epoch epoch (y ∷ ys) ≡ true

-- one begins the other, or they part where no chunk of one epoch stands in both or later
pub data Agrees (a b : List Chunk) : Type 0 where
  Begins : GoesOn a b → Agrees a b
  Is_begun : GoesOn b a → Agrees a b
  Parts : (front : List Chunk) (x y : Chunk) (xs ys : List Chunk) → a ≡ front ++ x ∷ xs → b ≡ front ++ y ∷ ys
      → ((e : ℕ) → has_epoch e (x ∷ xs) ≡ true → has_epoch e (y ∷ ys) ≡ true → ⊥) → Agrees a b

-- over these a stream may be opened in an epoch
pub record CanStart (epoch : ℕ) (starts : List Start) : Type 0 where
  pub some : 0 < length starts
  pub fits : epoch ≤ last_number
  pub whole : (i : ℕ) → i < length starts → IsWhole epoch (start_at starts i)
  pub agree : (i j : ℕ) → i < j → j < length starts → Agrees (start_at starts i).log (start_at starts j).log

-- ---- what a stream leaves

-- of each member a log and a promise that its disk may have, and an epoch that the coordinator's disk may have
pub record IsRecovered (w : ClusterState) (starts : List Start) (epoch : ℕ) : Type 0 where
  pub count : length starts ≡ length w.seats
  pub begins : MayBegin w.coordinator epoch
  pub held : (i : ℕ) → i < length starts → Holds (member w (i + 1)) (start_at starts i).log
  pub promises : (i : ℕ) → i < length starts → MayPromise (member w (i + 1)) (start_at starts i).promise
