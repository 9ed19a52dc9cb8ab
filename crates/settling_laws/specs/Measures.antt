-- Why a settle ends: jobs run out, and the numbers of what is delivered rise.
use Rattle.std.specs.Prelude.{◌≡◌, ℕ, ◌+◌, ◌<◌, ◌≤◌, true, ◌&&◌, if◌then◌else◌, is_some, List, [], ◌∷◌, ◌++◌, length, Option, Some, None}
use Rattle.std.specs.List.{AllByRecursion}
use Rattle.epoch_coordinator.specs.declared.message.Job.{Job}
use Rattle.epoch_coordinator.specs.Members.{MemberRole, role_chunks}
use Rattle.replication_laws.specs.Cluster.{Seat, Letter, Reign, ClusterState, last_number}
use Rattle.replication_laws.specs.Events.{Steps}
use Rattle.settling_laws.specs.Settling.{is_due, with_reigns}

-- ---- messages in order

-- the numbers of messages rise from behind a first one, and none is above a last one
abbrev pub Rising : ℕ → List Letter → ℕ → Type 0
Rising low [] last = low ≤ last
Rising low (l ∷ mail) last = (low < l.number) × Rising l.number mail last

-- messages stand in the order of their numbers
pub record IsInOrder (w : ClusterState) : Type 0 where
  pub rising : Rising 0 w.mail w.last
  pub fits : w.last ≤ last_number

-- the messages up to a number were given out, and those that are due have greater ones
pub record IsPast (number : ℕ) (w : ClusterState) : Type 0 where
  pub given : number ≤ w.last
  pub above : AllByRecursion (λ (l : Letter). is_due w l ≡ true → number < l.number) w.mail

-- ---- jobs

-- a job and what is queued behind it
abbrev pub jobs_by : Option Job → MemberRole → ℕ
jobs_by None role = 0
jobs_by (Some job) role = 1 + length (role_chunks role)

abbrev pub seat_jobs : Seat → ℕ
seat_jobs s = if s.up then jobs_by s.state.job s.state.role else 0

abbrev pub all_jobs : List Seat → ℕ
all_jobs [] = 0
all_jobs (s ∷ seats) = seat_jobs s + all_jobs seats

-- how many jobs are pending or queued where somebody is up, if no message comes
abbrev pub jobs_left : ClusterState → ℕ
jobs_left w = (if w.coordinator_up && is_some w.coordinator.job then 1 else 0) + all_jobs w.seats

-- ---- as a list of events

abbrev pub last_state : ClusterState → List ClusterState → ClusterState
last_state w [] = w
last_state w (x ∷ xs) = last_state x xs

-- a list of events leads from one state to another, which may have more reigns
pub record RunsTo (reigns : List Reign) (w w' : ClusterState) : Type 0 where
  pub more : List Reign
  pub run : List ClusterState
  pub steps : Steps (with_reigns reigns w) run
  pub ends : last_state (with_reigns reigns w) run ≡ with_reigns (more ++ reigns) w'
