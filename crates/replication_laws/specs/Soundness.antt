-- What holds in each state of a stream.
use Rattle.std.specs.Prelude.{◌≡◌, ℕ, ◌+◌, ◌<◌, ◌≤◌, zero, suc, ◌≢◌, ◌⊎◌, ◌↔◌, Bool, true, false, List, [], ◌∷◌, ◌++◌, length, Option, Some, None, slice_index_or}
use Rattle.std.specs.List.{AllByRecursion}
use Rattle.chunk_format.specs.declared.chunk.Chunk.{Chunk}
use Rattle.chunk_format.specs.Logs.{GoesOn, end_of, last_epoch, Linked, IsLog, HasRun}
use Rattle.epoch_coordinator.specs.declared.tail.Tail.{Tail}
use Rattle.epoch_coordinator.specs.declared.tail.Run.{Run}
use Rattle.epoch_coordinator.specs.declared.message.Job.{Job}
use Rattle.epoch_coordinator.specs.declared.message.Job.TheVariants.{Write, Cut, Promise, Epoch}
use Rattle.epoch_coordinator.specs.declared.message.Message.{Message}
use Rattle.epoch_coordinator.specs.declared.message.Message.TheVariants as messages
use Rattle.epoch_coordinator.specs.declared.coordinator.Phase.{Phase}
use Rattle.epoch_coordinator.specs.declared.coordinator.Phase.TheVariants.{Idle, Electing, Running}
use Rattle.epoch_coordinator.specs.Tails.{tail_of}
use Rattle.epoch_coordinator.specs.Members.{Leading, MemberRole, MemberState, Stopped, Follower, Leader, job_chunks}
use Rattle.epoch_coordinator.specs.MemberSteps.{commit_end}
use Rattle.epoch_coordinator.specs.Coordinators.{CoordinatorState, Told}
use Rattle.replication_laws.specs.Majorities.{IsMajority, is_voter}
use Rattle.replication_laws.specs.Cluster.{Seat, Letter, Reign, ClusterState, seat, member, IsMember, durable, reign_in, reign, InRuns, last_number, Holds}

-- ---- the tree of logs

-- What stands for all logs: of each epoch the longest log that ends in it, and the log that its leader had when it was chosen.
pub record Tree : Type 0 where
  pub canon : ℕ → List Chunk
  pub base : ℕ → List Chunk

-- a log begins the longest one that ends in its last epoch
abbrev pub IsRooted : (ℕ → List Chunk) → List Chunk → Type 0
IsRooted canon log = GoesOn log (canon (last_epoch log))

-- a chunk goes on from a log
abbrev pub Follows : List Chunk → Chunk → Type 0
Follows log c = Linked (end_of log) (last_epoch log) (c ∷ [])

-- (epoch, end) is the tail of a beginning, with a chunk, of the longest log of the epoch
pub record IsMark (canon : ℕ → List Chunk) (epoch end : ℕ) : Type 0 where
  pub upto : List Chunk
  pub begins : GoesOn upto (canon epoch)
  pub epoch_is : last_epoch upto ≡ epoch
  pub end_is : end_of upto ≡ end
  pub run : HasRun upto epoch end

-- ---- reigns

abbrev pub HasReign : ClusterState → ℕ → Type 0
HasReign w epoch = (r : Reign) × (reign w epoch ≡ Some r)

abbrev pub LeadsEpoch : ClusterState → ℕ → ℕ → Type 0
LeadsEpoch w epoch leader = (r : Reign) × (reign w epoch ≡ Some r) × (r.leader ≡ leader)

-- a reign later than an epoch, up to another one, whose runs don't reach (epoch, end)
pub record Lacks (reigns : List Reign) (epoch end upto : ℕ) : Type 0 where
  pub at : ℕ
  pub by : Reign
  pub is_reign : reign_in reigns at ≡ Some by
  pub later : epoch < at
  pub not_after : at ≤ upto
  pub lacks : InRuns by.runs epoch end → ⊥

-- each log that the disk of a member may have reaches (epoch, end)
abbrev pub AllReach : MemberState → ℕ → ℕ → Type 0
AllReach m epoch end = (held : List Chunk) → Holds m held → HasRun held epoch end

-- ---- what a message says

-- what an Ask of a member in an epoch, for what comes behind an end of that epoch, says of its disk: it has all up to there, or a later reign that it promised doesn't
pub record AskHolds (g : Tree) (w : ClusterState) (epoch from end : ℕ) : Type 0 where
  pub has_reign : HasReign w epoch
  pub promised : epoch ≤ (member w from).promise
  pub mark : IsMark g.canon epoch end
  pub stands : (m : ℕ) → IsMark g.canon epoch m → m ≤ end → AllReach (member w from) epoch m ⊎ Lacks w.reigns epoch m (member w from).promise

-- and of the later reigns that its sender elected: they have all up to there, or a reign between doesn't
abbrev pub AskElects : Tree → ClusterState → ℕ → ℕ → ℕ → Type 0
AskElects g w epoch from end = (m later : ℕ) (r : Reign) → IsMark g.canon epoch m → m ≤ end → reign w later ≡ Some r → epoch < later → is_voter r.electors from ≡ true
    → InRuns r.runs epoch m ⊎ ((between : ℕ) × (between < later) × Lacks w.reigns epoch m between)

-- the chunk of an Append follows its tail in the longest logs of its own epoch and of the leader's
pub record AppendHolds (g : Tree) (w : ClusterState) (epoch : ℕ) (previous : Tail) (c : Chunk) : Type 0 where
  pub has_reign : HasReign w epoch
  pub before : List Chunk
  pub tail_is : tail_of before ≡ previous
  pub begins : GoesOn (before ++ c ∷ []) (g.canon c.epoch)
  pub sent_from : GoesOn (before ++ c ∷ []) (g.canon epoch)
  pub not_above : c.epoch ≤ epoch

abbrev pub IsRest : MemberRole → Type 0
IsRest Stopped = Unit {0}
IsRest (Follower leader) = ⊥
IsRest (Leader l) = ⊥

-- no job that changes a log
abbrev pub IsQuiet : Option Job → Type 0
IsQuiet None = Unit {0}
IsQuiet (Some (Write c)) = ⊥
IsQuiet (Some (Cut end)) = ⊥
IsQuiet (Some (Promise epoch)) = Unit {0}
IsQuiet (Some (Epoch epoch)) = Unit {0}

-- a member whose log doesn't change
abbrev pub IsCalm : MemberState → Type 0
IsCalm m = IsQuiet m.job × IsRest m.role

-- a reply of an epoch is true until the epoch has a reign or its sender promises more
abbrev pub ReplyHolds : ClusterState → ℕ → ℕ → Tail → Type 0
ReplyHolds w epoch from tail = (epoch < (member w from).promise) ⊎ (HasReign w epoch ⊎ (((member w from).promise ≡ epoch) × IsCalm (member w from) × (tail_of (member w from).log ≡ tail)))

-- runs are those of the log from which the reign began
abbrev pub ShapeHolds : Tree → ℕ → List Run → Type 0
ShapeHolds g epoch runs = (d m : ℕ) → InRuns runs d m ↔ HasRun (g.base epoch) d m

-- the tail of no chunks, or of a beginning of a longest log
abbrev pub TailMark : Tree → Tail → Type 0
TailMark g tail = (tail ≡ tail_of []) ⊎ IsMark g.canon tail.epoch tail.end

-- what is known of a message on its way
abbrev pub MessageHolds : Tree → ClusterState → ℕ → Message → Type 0
MessageHolds g w to (messages.Stop epoch) = epoch ≤ durable w
MessageHolds g w to (messages.Stopped epoch from tail) = (epoch ≤ (member w from).promise) × ReplyHolds w epoch from tail
MessageHolds g w to (messages.Open epoch) = LeadsEpoch w epoch to
MessageHolds g w to (messages.Follow epoch leader) = LeadsEpoch w epoch leader × (to ≢ leader)
MessageHolds g w to (messages.Shape epoch runs) = HasReign w epoch × ShapeHolds g epoch runs
MessageHolds g w to (messages.Ask epoch from tail) = (tail.epoch ≡ epoch → AskHolds g w epoch from tail.end × AskElects g w epoch from tail.end) × HasReign w epoch × TailMark g tail
MessageHolds g w to (messages.Append epoch previous chunk) = AppendHolds g w epoch previous chunk

abbrev pub LetterHolds : Tree → ClusterState → Letter → Type 0
LetterHolds g w l = MessageHolds g w l.sent.to l.sent.message

-- ---- what a member has

-- Which jobs there may be. A chunk that is being written is the leader's own, or it goes on in the longest log of its epoch and its writer doesn't lead. Who leads cuts nothing.
abbrev pub JobHolds : Tree → ClusterState → ℕ → ℕ → List Chunk → Option Job → Type 0
JobHolds g w k promise log None = Unit {0}
JobHolds g w k promise log (Some (Promise epoch)) = (promise < epoch) × (epoch ≤ durable w)
JobHolds g w k promise log (Some (Write c)) = Follows log c × (c.epoch ≤ promise) × HasReign w promise
    × (((c.epoch ≡ promise) × LeadsEpoch w promise k) ⊎ ((LeadsEpoch w promise k → ⊥) × IsRooted g.canon (log ++ c ∷ [])))
JobHolds g w k promise log (Some (Cut end)) = HasReign w promise × (LeadsEpoch w promise k → ⊥) × ((front : List Chunk) × GoesOn front log × (end_of front ≡ end)) × (last_epoch log ≢ promise)
JobHolds g w k promise log (Some (Epoch epoch)) = ⊥

-- the end that a member acknowledged, by its number
abbrev pub acked : List ℕ → ℕ → ℕ
acked ends zero = 0
acked ends (suc i) = slice_index_or ends i 0

-- a leader leads the reign of its promise, each end that it counts was asked for, its own place is free, and an opened one keeps the runs of its reign
pub record LeaderHolds (g : Tree) (w : ClusterState) (k promise : ℕ) (l : Leading) : Type 0 where
  pub leads : LeadsEpoch w promise k
  pub asked : (j : ℕ) → 0 < acked l.acknowledged j → AskHolds g w promise j (acked l.acknowledged j) × AskElects g w promise j (acked l.acknowledged j)
  pub places : length l.acknowledged ≡ length w.seats
  pub own : acked l.acknowledged k ≡ 0
  pub kept : l.opened ≡ true → ShapeHolds g promise l.kept

abbrev pub RoleHolds : Tree → ClusterState → ℕ → ℕ → MemberRole → Type 0
RoleHolds g w k promise Stopped = Unit {0}
RoleHolds g w k promise (Follower leader) = LeadsEpoch w promise leader × (k ≢ leader)
RoleHolds g w k promise (Leader l) = LeaderHolds g w k promise l

-- a queue waits behind a job
abbrev pub Behind : Option Job → List Chunk → Type 0
Behind None queue = queue ≡ []
Behind (Some job) queue = Unit {0}

-- a follower promises nothing
abbrev pub IsOfFollower : Option Job → Type 0
IsOfFollower None = Unit {0}
IsOfFollower (Some (Write c)) = Unit {0}
IsOfFollower (Some (Cut end)) = Unit {0}
IsOfFollower (Some (Promise epoch)) = ⊥
IsOfFollower (Some (Epoch epoch)) = ⊥

-- a leader only writes
abbrev pub IsOfLeader : Option Job → Type 0
IsOfLeader None = Unit {0}
IsOfLeader (Some (Write c)) = Unit {0}
IsOfLeader (Some (Cut end)) = ⊥
IsOfLeader (Some (Promise epoch)) = ⊥
IsOfLeader (Some (Epoch epoch)) = ⊥

-- a leader's queue goes on from its log and job in its own epoch; it is opened where its last chunk has that epoch
pub record LeaderLine (promise : ℕ) (log : List Chunk) (job : Option Job) (l : Leading) : Type 0 where
  pub writes : IsOfLeader job
  pub goes_on : Linked (end_of (log ++ job_chunks job)) (last_epoch (log ++ job_chunks job)) l.queue
  pub own_epoch : AllByRecursion (λ c. c.epoch ≡ promise) l.queue
  pub behind : Behind job l.queue
  pub is_open : l.opened ≡ true → last_epoch log ≡ promise
  pub is_new : l.opened ≡ false → (last_epoch log ≢ promise) × ((c : Chunk) × (job ≡ Some (Write c)))

-- what a role says of the log and the job of its member alone
abbrev pub LineHolds : ℕ → List Chunk → Option Job → MemberRole → Type 0
LineHolds promise log job Stopped = IsQuiet job
LineHolds promise log job (Follower leader) = IsOfFollower job
LineHolds promise log job (Leader l) = LeaderLine promise log job l

-- who leads an epoch has the log from which its reign began, or the longest log of the epoch, which goes on from that
abbrev pub LeadsWith : Tree → ℕ → List Chunk → Type 0
LeadsWith g promise log = ((g.canon promise ≡ []) × (log ≡ g.base promise)) ⊎ ((log ≡ g.canon promise) × GoesOn (g.base promise) log)

pub record MemberHolds (g : Tree) (w : ClusterState) (k : ℕ) (s : Seat) : Type 0 where
  pub is_log : IsLog s.state.log
  pub below : last_epoch s.state.log ≤ s.state.promise
  pub not_ahead : s.state.promise ≤ durable w
  pub rooted : IsRooted g.canon s.state.log
  pub job : JobHolds g w k s.state.promise s.state.log s.state.job
  pub role : RoleHolds g w k s.state.promise s.state.role
  pub leads : LeadsEpoch w s.state.promise k → LeadsWith g s.state.promise s.state.log
  pub line : s.up ≡ true → LineHolds s.state.promise s.state.log s.state.job s.state.role

-- ---- what a reign has

-- the longest log of an epoch is empty, or goes on from where its reign began by chunks of the epoch alone
abbrev pub OwnBehind : Tree → ℕ → Type 0
OwnBehind g epoch = (g.canon epoch ≡ []) ⊎ ((own : List Chunk) × (g.canon epoch ≡ g.base epoch ++ own) × AllByRecursion (λ (c : Chunk). c.epoch ≡ epoch) own)

-- A majority elected it, each of them and its leader has promised its epoch, and its runs are those of the log from which it began.
pub record ReignHolds (g : Tree) (w : ClusterState) (epoch : ℕ) (r : Reign) : Type 0 where
  pub not_ahead : epoch ≤ durable w
  pub elected : IsMajority (length w.seats) r.electors
  pub promised : (k : ℕ) → is_voter r.electors k ≡ true → epoch ≤ (member w k).promise
  pub led : epoch ≤ (member w r.leader).promise
  pub runs : (d m : ℕ) → InRuns r.runs d m ↔ HasRun (g.base epoch) d m
  pub base_log : IsLog (g.base epoch)
  pub base_rooted : IsRooted g.canon (g.base epoch)
  pub base_below : last_epoch (g.base epoch) < epoch
  pub begins : OwnBehind g epoch

-- ---- the tree

-- the longest logs are logs; each beginning of one is rooted; each ends in its epoch, which is one from before the opening or has a reign
pub record TreeHolds (g : Tree) (w : ClusterState) (opened : ℕ) : Type 0 where
  pub logs : (e : ℕ) → IsLog (g.canon e)
  pub rooted : (e : ℕ) (front : List Chunk) → GoesOn front (g.canon e) → IsRooted g.canon front
  pub ends : (e : ℕ) → (g.canon e ≡ []) ⊎ (last_epoch (g.canon e) ≡ e)
  pub known : (e : ℕ) → (g.canon e ≡ []) ⊎ ((e ≤ opened) ⊎ HasReign w e)
  pub reigns_later : (e : ℕ) → HasReign w e → opened < e
  pub not_ahead : opened ≤ durable w

-- ---- the coordinator

-- while it elects, its epoch has no reign, and each reply that it keeps is true
pub record ElectingHolds (opened : ℕ) (w : ClusterState) (told : List (Option Tail)) : Type 0 where
  pub new : reign w (durable w) ≡ None
  pub replies : (k : ℕ) (t : Tail) → Told 1 told k t → IsMember w k × (durable w ≤ (member w k).promise) × ReplyHolds w (durable w) k t
  pub later : opened < durable w

abbrev pub PhaseHolds : ℕ → ClusterState → List (Option Tail) → Phase → Type 0
PhaseHolds opened w told Idle = Unit {0}
PhaseHolds opened w told Electing = ElectingHolds opened w told
PhaseHolds opened w told (Running leader) = LeadsEpoch w (durable w) leader

pub record CoordinatorHolds (opened : ℕ) (w : ClusterState) (c : CoordinatorState) : Type 0 where
  pub count : c.members ≡ length w.seats
  pub places : length c.told ≡ length w.seats
  pub fits : c.epoch ≤ last_number
  pub next : (epoch : ℕ) → c.job ≡ Some epoch → (epoch ≡ c.epoch + 1) × (epoch ≤ last_number)
  pub phase : PhaseHolds opened w c.told c.phase

-- ---- kept lists

-- A list is kept: a majority has it in each log that its disks may have, each log that goes on in a later epoch begins with it, and each later reign reaches its tail.
pub record Kept (w : ClusterState) (list : List Chunk) : Type 0 where
  pub voters : List Bool
  pub most : IsMajority (length w.seats) voters
  pub held : (k : ℕ) → is_voter voters k ≡ true → (h : List Chunk) → Holds (member w k) h → GoesOn list h
  pub later : (k : ℕ) (h : List Chunk) → Holds (member w k) h → last_epoch list < last_epoch h → GoesOn list h
  pub reigns : (e : ℕ) (r : Reign) → reign w e ≡ Some r → last_epoch list < e → (list ≡ []) ⊎ InRuns r.runs (last_epoch list) (end_of list)

-- ---- all of it

pub record Sound (g : Tree) (opened : ℕ) (w : ClusterState) : Type 0 where
  pub tree : TreeHolds g w opened
  pub each_member : (k : ℕ) → MemberHolds g w k (seat w k)
  pub named : (k : ℕ) → IsMember w k → ((member w k).number ≡ k) × ((member w k).members ≡ length w.seats)
  pub each_reign : (e : ℕ) (r : Reign) → reign w e ≡ Some r → ReignHolds g w e r
  pub each_letter : AllByRecursion (LetterHolds g w) w.mail
  pub coordinator : CoordinatorHolds opened w w.coordinator
  pub committed : Kept w w.committed

-- the committed list reaches what is due at each member that is up
abbrev pub IsCommitted : ClusterState → Type 0
IsCommitted w = (k : ℕ) → IsMember w k → (seat w k).up ≡ true → commit_end (member w k) ≤ end_of w.committed

-- A stream that was opened in an epoch is sound: some tree of logs stands for it, and what is due is committed.
pub record IsSound (opened : ℕ) (w : ClusterState) : Type 0 where
  pub tree : Tree
  pub sound : Sound tree opened w
  pub reached : IsCommitted w

-- The same but for what is due: so a stream is after a member changed, and before the commit that belongs to the change.
pub record IsSoundBeforeCommit (opened : ℕ) (w : ClusterState) : Type 0 where
  pub tree : Tree
  pub sound : Sound tree opened w

-- a list stays kept, and one of it and the committed list begins with the other
pub record StaysKept (list : List Chunk) (w : ClusterState) : Type 0 where
  pub kept : Kept w list
  pub order : GoesOn list w.committed ⊎ GoesOn w.committed list
