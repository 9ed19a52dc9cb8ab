-- How a stream comes to rest, one step after the other.
use Rattle.std.specs.Prelude.{◌≡◌, ℕ, zero, suc, ◌+◌, Bool, not, ◌&&◌, if◌then◌else◌, nat_lt, is_some, List, [], ◌∷◌, ◌++◌, length, Option, Some, None}
use Rattle.epoch_coordinator.specs.declared.message.Sent.{Sent}
use Rattle.replication_laws.specs.Cluster.{Seat, Letter, Reign, ClusterState, seat, letter_in, marked, send}
use Rattle.replication_laws.specs.Events.{comes, performed, goes_down, nudges, ClusterStep}

-- ---- what is next

-- a member, by its number, is there and up; the coordinator is number 0
abbrev pub is_up : ClusterState → ℕ → Bool
is_up w zero = w.coordinator_up
is_up w (suc i) = nat_lt i (length w.seats) && (seat w (suc i)).up

-- a member that is up has a job
abbrev pub is_busy : Seat → Bool
is_busy s = s.up && is_some s.state.job

-- the number of the first that does, counted from a number on
abbrev pub job_from : ℕ → List Seat → Option ℕ
job_from k [] = None
job_from k (s ∷ seats) = if is_busy s then Some k else job_from (k + 1) seats

-- the least number with a pending job; the coordinator's is 0
abbrev pub next_job : ClusterState → Option ℕ
next_job w = if w.coordinator_up && is_some w.coordinator.job then Some 0 else job_from 1 w.seats

-- a message wasn't delivered, and its receiver is up; the others are passed over
abbrev pub is_due : ClusterState → Letter → Bool
is_due w l = not l.delivered && is_up w l.sent.to

abbrev pub due_in : ClusterState → List Letter → Option ℕ
due_in w [] = None
due_in w (l ∷ mail) = if is_due w l then Some l.number else due_in w mail

-- the undelivered message of least number, as messages stand in the order of their numbers
abbrev pub next_letter : ClusterState → Option ℕ
next_letter w = due_in w w.mail

-- ---- the steps

-- what comes of a job: its receipt, or a fault, which stops its member; so an epoch job's fault stops the coordinator
pub data Answer : Type 0 where
  Receipt : Answer
  Fault : Answer

abbrev pub answered : Answer → ℕ → ClusterState → ClusterState
answered Receipt k w = performed k w
answered Fault k w = goes_down k w

-- pending jobs are performed, before the nudge; then messages are delivered; then all is at rest
pub data Stage : Type 0 where
  Jobs : Stage
  Letters : Stage
  Rest : Stage

-- a stream within its settle; as in code, the reigns of its epochs are left out
pub record Turn : Type 0 where
  pub stage : Stage
  pub cluster : ClusterState

abbrev pub bare : ClusterState → ClusterState
bare w = record w { reigns = [] }

abbrev pub turn : Stage → ClusterState → Turn
turn stage w = record { stage = stage; cluster = bare w }

-- One step, at a moment in milliseconds. A job that is pending comes first, also one that a message or a job made.
pub data SettleStep (now : ℕ) (old new : Turn) : Type 0 where
  -- the job of least number is answered, before the nudge
  Perform : (k : ℕ) (a : Answer) → old.stage ≡ Jobs → next_job old.cluster ≡ Some k → new ≡ turn Jobs (answered a k old.cluster) → SettleStep now old new
  -- with no job pending there is one nudge
  Nudge : old.stage ≡ Jobs → next_job old.cluster ≡ None → new ≡ turn Letters (send old.cluster (nudges old.cluster)) → SettleStep now old new
  -- a job that arose is answered
  Follow_up : (k : ℕ) (a : Answer) → old.stage ≡ Letters → next_job old.cluster ≡ Some k → new ≡ turn Letters (answered a k old.cluster) → SettleStep now old new
  -- the message of least number is delivered
  Deliver : (number : ℕ) (s : Sent) → old.stage ≡ Letters → next_job old.cluster ≡ None → next_letter old.cluster ≡ Some number → letter_in number old.cluster.mail ≡ Some s
      → new ≡ turn Letters (comes now s.to s.message (record old.cluster { mail = marked number old.cluster.mail })) → SettleStep now old new
  -- with no message left all are forgotten, and numbering begins at 1 again
  Forget : old.stage ≡ Letters → next_job old.cluster ≡ None → next_letter old.cluster ≡ None → new ≡ turn Rest (record old.cluster { mail = []; last = 0 }) → SettleStep now old new

-- one after the other
abbrev pub Stepping : ℕ → Turn → List Turn → Type 0
Stepping now t [] = Unit {0}
Stepping now t (x ∷ xs) = SettleStep now t x × Stepping now x xs

abbrev pub last_turn : Turn → List Turn → Turn
last_turn t [] = t
last_turn t (x ∷ xs) = last_turn x xs

-- some steps lead from one turn to another
pub record Settling (now : ℕ) (old new : Turn) : Type 0 where
  pub turns : List Turn
  pub steps : Stepping now old turns
  pub ends : last_turn old turns ≡ new

-- A stream settles: the steps have run to their end.
abbrev pub Settles : ℕ → ClusterState → ClusterState → Type 0
Settles now w w' = Settling now (turn Jobs w) (turn Rest w')

-- ---- with reigns

abbrev pub with_reigns : List Reign → ClusterState → ClusterState
with_reigns reigns w = record w { reigns = reigns }

-- whatever the reigns are, with some reigns more it is one event of the laws
abbrev pub IsEvent : ℕ → ClusterState → ClusterState → Type 0
IsEvent now w w' = (reigns : List Reign) → (more : List Reign) × ClusterStep now (with_reigns reigns w) (with_reigns (more ++ reigns) w')
