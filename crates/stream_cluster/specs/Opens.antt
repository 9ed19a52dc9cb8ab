-- A stream is opened over what the disks of its members had.
use Rattle.std.specs.Prelude.{◌≡◌, ℕ, suc, ◌<◌, ◌≤◌, ◌⊎◌, List, [], ◌∷◌, ◌++◌, length, map, slice_index_or}
use Rattle.chunk_format.specs.declared.chunk.Chunk.{Chunk}
use Rattle.chunk_format.specs.Logs.{IsLog, Truthful, last_epoch}
use Rattle.replication_laws.specs.Openings.{Start, opened_cluster, Diverges, Agrees}
use Rattle.epoch_coordinator.specs.MemberSteps.{restarted}
use Rattle.replication_laws.specs.Cluster.{Seat}
use Rattle.segment_store.specs.declared.recovered.Recovered.{Recovered}
use Rattle.cluster_core.specs.Breaks.{Misfits}
use Rattle.cluster_core.specs.States.{ReplicaState}
use Rattle.stream_cluster.specs.Seats.{in_seat}
use Rattle.stream_cluster.specs.declared.fault.OpenFault.{OpenFault}
use Rattle.stream_cluster.specs.declared.fault.OpenFault.TheVariants.{Diverged, Broken, Ahead, Memory}

abbrev pub nothing_had : Recovered
nothing_had = record { member = 0; promise = 0; chunks = [] }

-- what the disk of the i-th member had, counted from 0
abbrev pub had_at : List Recovered → ℕ → Recovered
had_at starts i = slice_index_or starts i nothing_had

-- the members are numbered from 1 on
abbrev pub AreNumbered : List Recovered → Type 0
AreNumbered starts = (i : ℕ) → i < length starts → (had_at starts i).member ≡ suc i

-- a log whose epochs don't pass a promise, with truthful snapshots
pub record IsSoundLog (chunks : List Chunk) (promise : ℕ) : Type 0 where
  pub is_log : IsLog chunks
  pub truthful : Truthful chunks
  pub promised : last_epoch chunks ≤ promise

abbrev pub IsWhole : Recovered → Type 0
IsWhole r = IsSoundLog r.chunks r.promise

-- The first chunk that doesn't begin where those before it end, or whose epoch is below theirs or above the promise, or that is a snapshot and isn't truthful, begins at an offset.
pub record BreaksAt (chunks : List Chunk) (promise offset : ℕ) : Type 0 where
  pub front : List Chunk
  pub chunk : Chunk
  pub rest : List Chunk
  pub parts : chunks ≡ front ++ chunk ∷ rest
  pub sound : IsSoundLog front promise
  pub fails : Misfits front promise chunk ⊎ (Truthful (front ++ chunk ∷ []) → ⊥)
  pub begins : chunk.first ≡ offset

-- ---- whole logs

abbrev pub AllWhole : List Recovered → Type 0
AllWhole starts = (i : ℕ) → i < length starts → IsWhole (had_at starts i)

-- the first member whose log isn't whole
pub record FirstBroken (starts : List Recovered) (member offset : ℕ) : Type 0 where
  pub place : ℕ
  pub within : place < length starts
  pub before : (i : ℕ) → i < place → IsWhole (had_at starts i)
  pub breaks : BreaksAt (had_at starts place).chunks (had_at starts place).promise offset
  pub is_member : member ≡ (had_at starts place).member

abbrev pub BrokenBy : List Recovered → OpenFault → Type 0
BrokenBy starts (Broken member offset) = FirstBroken starts member offset
BrokenBy starts (Diverged a b offset) = ⊥
BrokenBy starts (Ahead member promise epoch) = ⊥
BrokenBy starts Memory = Unit {0}

-- ---- promises

abbrev pub NotAhead : ℕ → Recovered → Type 0
NotAhead epoch r = r.promise ≤ epoch

abbrev pub NoneAhead : ℕ → List Recovered → Type 0
NoneAhead epoch starts = (i : ℕ) → i < length starts → NotAhead epoch (had_at starts i)

-- the first member whose promise is above the epoch
pub record FirstAhead (starts : List Recovered) (member promise epoch : ℕ) : Type 0 where
  pub place : ℕ
  pub within : place < length starts
  pub before : (i : ℕ) → i < place → NotAhead epoch (had_at starts i)
  pub ahead : epoch < (had_at starts place).promise
  pub is_member : member ≡ (had_at starts place).member
  pub is_promise : promise ≡ (had_at starts place).promise

abbrev pub AheadBy : ℕ → List Recovered → OpenFault → Type 0
AheadBy epoch starts (Ahead member promise above) = FirstAhead starts member promise epoch × (above ≡ epoch)
AheadBy epoch starts (Broken member offset) = ⊥
AheadBy epoch starts (Diverged a b offset) = ⊥
AheadBy epoch starts Memory = ⊥

-- ---- logs that stand together

abbrev pub AgreesWith : Recovered → Recovered → Type 0
AgreesWith one other = Agrees one.chunks other.chunks

abbrev pub AllAgreeWith : Recovered → List Recovered → Type 0
AllAgreeWith one others = (j : ℕ) → j < length others → AgreesWith one (had_at others j)

-- the first of others whose log can't stand together with one
pub record FirstApart (one : Recovered) (others : List Recovered) (a b offset : ℕ) : Type 0 where
  pub place : ℕ
  pub within : place < length others
  pub before : (j : ℕ) → j < place → AgreesWith one (had_at others j)
  pub diverge : Diverges one.chunks (had_at others place).chunks offset
  pub is_a : a ≡ one.member
  pub is_b : b ≡ (had_at others place).member

abbrev pub ApartBy : Recovered → List Recovered → OpenFault → Type 0
ApartBy one others (Diverged a b offset) = FirstApart one others a b offset
ApartBy one others (Broken member offset) = ⊥
ApartBy one others (Ahead member promise epoch) = ⊥
ApartBy one others Memory = ⊥

abbrev pub AllAgree : List Recovered → Type 0
AllAgree starts = (i j : ℕ) → i < j → j < length starts → AgreesWith (had_at starts i) (had_at starts j)

-- the first two members, by number, whose logs can't stand together
pub record FirstDiverged (starts : List Recovered) (a b offset : ℕ) : Type 0 where
  pub place : ℕ
  pub other : ℕ
  pub apart : place < other
  pub within : other < length starts
  pub before : (i j : ℕ) → i < place → i < j → j < length starts → AgreesWith (had_at starts i) (had_at starts j)
  pub between : (j : ℕ) → place < j → j < other → AgreesWith (had_at starts place) (had_at starts j)
  pub diverge : Diverges (had_at starts place).chunks (had_at starts other).chunks offset
  pub is_a : a ≡ (had_at starts place).member
  pub is_b : b ≡ (had_at starts other).member

abbrev pub DivergedBy : List Recovered → OpenFault → Type 0
DivergedBy starts (Diverged a b offset) = FirstDiverged starts a b offset
DivergedBy starts (Broken member offset) = ⊥
DivergedBy starts (Ahead member promise epoch) = ⊥
DivergedBy starts Memory = ⊥

-- ---- what is opened

abbrev pub start_of : Recovered → Start
start_of r = record { promise = r.promise; log = r.chunks }

-- a member that comes up with what its disk had
abbrev pub started : ℕ → Recovered → Seat
started members r = in_seat (restarted members r.member r.promise r.chunks)

-- all are up and stopped, nothing is committed, and jobs are numbered from 0 on
abbrev pub opened_state : ℕ → List Recovered → ReplicaState
opened_state epoch starts = record { cluster = opened_cluster epoch (map start_of starts); numbers = 0 ∷ 0 ∷ 0 ∷ 0 ∷ 0 ∷ 0 ∷ 0 ∷ 0 ∷ [] }

-- Why it isn't opened: all logs are looked at first, then all promises, then all pairs of logs.
abbrev pub RefusedBy : ℕ → List Recovered → OpenFault → Type 0
RefusedBy epoch starts (Broken member offset) = FirstBroken starts member offset
RefusedBy epoch starts (Ahead member promise above) = AllWhole starts × (FirstAhead starts member promise epoch × (above ≡ epoch))
RefusedBy epoch starts (Diverged a b offset) = AllWhole starts × (NoneAhead epoch starts × FirstDiverged starts a b offset)
RefusedBy epoch starts Memory = Unit {0}

-- it may be opened
pub record MayOpen (epoch : ℕ) (starts : List Recovered) : Type 0 where
  pub whole : AllWhole starts
  pub none_ahead : NoneAhead epoch starts
  pub agree : AllAgree starts
