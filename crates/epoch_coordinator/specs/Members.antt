-- What a member of a stream knows, while it is up.
use Rattle.std.specs.Prelude.{ℕ, Bool, true, false, List, [], ◌∷◌, ◌++◌, Option, Some, None}
use Rattle.chunk_format.specs.declared.chunk.Chunk.{Chunk}
use Rattle.epoch_coordinator.specs.declared.tail.Run.{Run}
use Rattle.epoch_coordinator.specs.declared.message.Job.{Job}
use Rattle.epoch_coordinator.specs.declared.message.Job.TheVariants.{Write, Cut, Promise, Epoch}

-- what a leader keeps
pub record Leading : Type 0 where
  -- whether its opening chunk is on its disk
  pub opened : Bool
  -- the runs of its log before that chunk
  pub kept : List Run
  -- of each member, by number from 1 on, the end that it acknowledged in this epoch
  pub acknowledged : List ℕ
  -- the chunks that it took and that wait for their Write, in order
  pub queue : List Chunk

pub data MemberRole : Type 0 where
  Stopped : MemberRole
  Follower : ℕ → MemberRole
  Leader : Leading → MemberRole

-- a member: its number, how many members there are, the epoch that it promised, its role, its log and its pending job
pub record MemberState : Type 0 where
  pub number : ℕ
  pub members : ℕ
  pub promise : ℕ
  pub role : MemberRole
  pub log : List Chunk
  pub job : Option Job

abbrev pub is_stopped : MemberRole → Bool
is_stopped Stopped = true
is_stopped (Follower leader) = false
is_stopped (Leader leading) = false

-- the chunk that a job writes
abbrev pub job_chunks : Option Job → List Chunk
job_chunks (Some (Write c)) = c ∷ []
job_chunks (Some (Cut end)) = []
job_chunks (Some (Promise epoch)) = []
job_chunks (Some (Epoch epoch)) = []
job_chunks None = []

abbrev pub role_chunks : MemberRole → List Chunk
role_chunks Stopped = []
role_chunks (Follower leader) = []
role_chunks (Leader leading) = leading.queue

-- the log, the chunk that is being written, and those that wait
abbrev pub sequence_of : MemberState → List Chunk
sequence_of m = m.log ++ (job_chunks m.job ++ role_chunks m.role)
