-- What a member keeps, seen as a member of the rules of replication.
use Rattle.std.specs.Prelude.{◌≡◌, ℕ, ◌+◌, ◌≤◌, ◌&&◌, ◌||◌, ◌==◌, if◌then◌else◌, nat_le, Bool, true, false, List, [], ◌∷◌, ◌++◌, length, map, take, Option, Some, None}
use Rattle.chunk_format.specs.declared.chunk.Chunk.{Chunk}
use Rattle.chunk_format.specs.Chunks.{end_of_chunk}
use Rattle.chunk_format.specs.Logs.{last_epoch}
use Rattle.epoch_coordinator.specs.declared.tail.Run.{Run}
use Rattle.epoch_coordinator.specs.declared.tail.Tail.{Tail}
use Rattle.epoch_coordinator.specs.declared.message.Message.{Message}
use Rattle.epoch_coordinator.specs.declared.message.Message.TheVariants as messages
use Rattle.epoch_coordinator.specs.declared.message.Sent.{Sent}
use Rattle.epoch_coordinator.specs.declared.message.Job.{Job}
use Rattle.epoch_coordinator.specs.declared.message.Job.TheVariants as jobs
use Rattle.epoch_coordinator.specs.Tails.{same_tail, tail_of, runs_of}
use Rattle.epoch_coordinator.specs.Members.{Leading, MemberRole, MemberState, Stopped, Follower, Leader, job_chunks, role_chunks}
use Rattle.epoch_coordinator.specs.MemberSteps.{behind_first, next_job, offered, Took, tail_after, other_members, mail, raise, is_majority, reaching, names_another, epoch_of, is_later_stop}
use Rattle.member_core.specs.Kept.{LogState, whole, AreCounted}
use Rattle.member_core.specs.declared.back.Mark.{Mark}
use Rattle.member_core.specs.declared.duty.Lead.{Lead}
use Rattle.member_core.specs.declared.duty.Duty.{Duty}
use Rattle.member_core.specs.declared.duty.Duty.TheVariants as duties
use Rattle.member_core.specs.declared.duty.Role.{Role}
use Rattle.member_core.specs.declared.duty.Role.TheVariants as roles
use Rattle.member_core.specs.declared.take.Taken.{Taken}
use Rattle.member_core.specs.declared.take.Taken.TheVariants.{Done, Later}

-- ---- the role

-- behind the chunk that is being written stand those that wait
abbrev pub leading_of : ℕ → Lead → List Chunk → Leading
leading_of members lead ahead = record { opened = lead.opened; kept = lead.kept; acknowledged = take members lead.acknowledged; queue = behind_first ahead }

abbrev pub role_of : ℕ → Duty → List Chunk → MemberRole
role_of members duties.Stopped ahead = Stopped
role_of members (duties.Follower leader) ahead = Follower leader
role_of members (duties.Leader lead) ahead = Leader (leading_of members lead ahead)

-- what a caller is told of it
abbrev pub told_role : MemberRole → Role
told_role Stopped = roles.Stopped
told_role (Follower leader) = roles.Follower leader
told_role (Leader leading) = roles.Leader leading.opened

abbrev pub IsOpen : MemberRole → Type 0
IsOpen Stopped = ⊥
IsOpen (Follower leader) = ⊥
IsOpen (Leader leading) = leading.opened ≡ true

-- whether a leader is opened
abbrev pub is_open : MemberRole → Bool
is_open Stopped = false
is_open (Follower leader) = false
is_open (Leader leading) = leading.opened

-- whom a member follows
abbrev pub followed : MemberRole → Option ℕ
followed Stopped = None
followed (Follower leader) = Some leader
followed (Leader leading) = None

-- the runs that a leader had before its first chunk
abbrev pub kept_of : MemberRole → List Run
kept_of Stopped = []
kept_of (Follower leader) = []
kept_of (Leader leading) = leading.kept

-- a leader hears an acknowledgement
abbrev pub with_end : ℕ → ℕ → MemberRole → MemberRole
with_end from end Stopped = Stopped
with_end from end (Follower leader) = Follower leader
with_end from end (Leader leading) = Leader (record leading { acknowledged = raise from end leading.acknowledged })

-- the chunk that is sent next, if there is one
abbrev pub next_mail : Option Chunk → ℕ → ℕ → Tail → List Sent
next_mail None from epoch tail = []
next_mail (Some c) from epoch tail = mail from (messages.Append epoch tail c) ∷ []

-- ---- a chunk is written

-- what is sent then: a follower asks for the next chunk, a leader sends this one to all others
abbrev pub wrote_mail : MemberRole → Chunk → MemberState → List Sent
wrote_mail Stopped c m = []
wrote_mail (Follower leader) c m = mail leader (messages.Ask m.promise m.number (tail_after c)) ∷ []
wrote_mail (Leader leading) c m = map (λ (k : ℕ). mail k (messages.Append m.promise (tail_of m.log) c)) (other_members m.members m.number)

-- the runs that a leader keeps when its first chunk is written
abbrev pub first_kept : MemberRole → List Chunk → List Run
first_kept Stopped log = []
first_kept (Follower leader) log = []
first_kept (Leader leading) log = if leading.opened then [] else runs_of log

abbrev pub opened_duty : List Run → Duty → Duty
opened_duty kept duties.Stopped = duties.Stopped
opened_duty kept (duties.Follower leader) = duties.Follower leader
opened_duty kept (duties.Leader lead) = duties.Leader (record { opened = true; kept = if lead.opened then lead.kept else kept; acknowledged = lead.acknowledged })

-- ---- what a majority has

abbrev pub has_majority : ℕ → List ℕ → ℕ → Bool
has_majority members acknowledged end = is_majority members (1 + reaching end acknowledged)

-- the greatest end of a chunk of an epoch that a majority has, or this one
abbrev pub commit_over : ℕ → ℕ → List ℕ → ℕ → List Chunk → ℕ
commit_over epoch members acknowledged end [] = end
commit_over epoch members acknowledged end (c ∷ chunks) =
    commit_over epoch members acknowledged (if (c.epoch == epoch) && has_majority members acknowledged (end_of_chunk c) then end_of_chunk c else end) chunks

-- ---- what is kept

-- the chunk that is being written is the first that isn't in the log, and nothing waits but for a Write
abbrev pub WaitsFor : Option Job → List Chunk → Type 0
WaitsFor None ahead = ahead ≡ []
WaitsFor (Some (jobs.Write c)) ahead = ahead ≡ c ∷ behind_first ahead
WaitsFor (Some (jobs.Cut end)) ahead = ahead ≡ []
WaitsFor (Some (jobs.Promise epoch)) ahead = ahead ≡ []
WaitsFor (Some (jobs.Epoch epoch)) ahead = ahead ≡ []

-- only a leader has chunks behind the one that is being written
abbrev pub Queues : Duty → List Chunk → Type 0
Queues duties.Stopped ahead = behind_first ahead ≡ []
Queues (duties.Follower leader) ahead = behind_first ahead ≡ []
Queues (duties.Leader lead) ahead = Unit {0}

-- a leader has no other job than a Write
abbrev pub IsWrite : Option Job → Type 0
IsWrite None = Unit {0}
IsWrite (Some (jobs.Write c)) = Unit {0}
IsWrite (Some (jobs.Cut end)) = ⊥
IsWrite (Some (jobs.Promise epoch)) = ⊥
IsWrite (Some (jobs.Epoch epoch)) = ⊥

abbrev pub Leads : Duty → Option Job → Type 0
Leads duties.Stopped job = Unit {0}
Leads (duties.Follower leader) job = Unit {0}
Leads (duties.Leader lead) job = IsWrite job

-- an epoch that is to be promised isn't below the promise
abbrev pub Promises : ℕ → Option Job → Type 0
Promises promise None = Unit {0}
Promises promise (Some (jobs.Write c)) = Unit {0}
Promises promise (Some (jobs.Cut end)) = Unit {0}
Promises promise (Some (jobs.Promise epoch)) = promise ≤ epoch
Promises promise (Some (jobs.Epoch epoch)) = Unit {0}

pub record IsMember (members promise : ℕ) (duty : Duty) (log : LogState) (job : Option Job) : Type 0 where
  pub some : 1 ≤ members
  pub few : members ≤ 7
  pub waits : WaitsFor job log.ahead
  pub queues : Queues duty log.ahead
  pub leads : Leads duty job
  pub promised : last_epoch (whole log) ≤ promise
  pub next : Promises promise job

-- ---- chunks are taken, and taken back

-- a leader takes chunks, one after the other
abbrev pub offered_all : List Chunk → MemberState → MemberState
offered_all [] m = m
offered_all (c ∷ chunks) m = offered_all chunks (offered c m)

-- the chunks that are not in its log: the one that is being written, and those that wait
abbrev pub waiting_of : MemberState → List Chunk
waiting_of m = job_chunks m.job ++ role_chunks m.role

abbrev pub queued_as : List Chunk → MemberRole → MemberRole
queued_as queue Stopped = Stopped
queued_as queue (Follower leader) = Follower leader
queued_as queue (Leader leading) = Leader (record leading { queue = queue })

-- a leader of which these chunks aren't in its log
abbrev pub with_waiting : List Chunk → MemberState → MemberState
with_waiting chunks m = record m { role = queued_as (behind_first chunks) m.role; job = next_job chunks }

-- what a leader took since a mark was made is taken back
abbrev pub taken_back : Mark → MemberState → MemberState
taken_back mark m = with_waiting (take mark.count (waiting_of m)) m

-- a mark tells how many of its chunks weren't in its log, and the numbers of its chunks up to there
pub record Marks (mark : Mark) (m : MemberState) : Type 0 where
  pub within : mark.count ≤ length (waiting_of m)
  pub counted : AreCounted (m.log ++ take mark.count (waiting_of m)) (take mark.count (waiting_of m)) mark.counted.bytes mark.counted.since mark.counted.waiting

-- ---- messages

-- it names another member, and is of the promised epoch or a later Stop
abbrev pub is_heard : ℕ → ℕ → ℕ → Message → Bool
is_heard members me promise message = names_another members me message && ((epoch_of message == promise) || is_later_stop promise message)

-- a chunk of an epoch that begins at an offset goes on from a log with this tail, where it is the tail that is named
abbrev pub follows : Tail → ℕ → Tail → ℕ → ℕ → Bool
follows tail promise previous epoch first = same_tail previous tail && (first == previous.end) && nat_le previous.epoch epoch && nat_le epoch promise

-- ---- what a call answers

-- a message is taken where no job is pending
abbrev pub answer_by : Option Job → Took → Taken
answer_by None took = Done took.sent
answer_by (Some job) took = Later

abbrev pub state_by : Option Job → MemberState → Took → MemberState
state_by None m took = took.state
state_by (Some job) m took = m
