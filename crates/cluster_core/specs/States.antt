-- A stream over its members, as its code keeps it. The reigns of its epochs aren't kept: what is said holds with some reigns.
use Rattle.std.specs.Prelude.{◌≡◌, ℕ, ◌+◌, ◌%◌, ◌^◌, ◌≤◌, ◌&&◌, ◌||◌, ◌==◌, not, if◌then◌else◌, Bool, true, false, List, [], ◌++◌, length, Option, Some, None, slice_set, slice_index_or}
use Rattle.chunk_format.specs.declared.chunk.Chunk.{Chunk}
use Rattle.chunk_format.specs.Logs.{Truthful}
use Rattle.epoch_coordinator.specs.declared.message.Message.{Message}
use Rattle.epoch_coordinator.specs.declared.message.Message.TheVariants as messages
use Rattle.epoch_coordinator.specs.declared.message.Sent.{Sent}
use Rattle.epoch_coordinator.specs.declared.tail.Tail.{Tail}
use Rattle.epoch_coordinator.specs.declared.coordinator.Phase.{Phase}
use Rattle.epoch_coordinator.specs.declared.coordinator.Phase.TheVariants.{Idle}
use Rattle.epoch_coordinator.specs.declared.coordinator.StoppedDid.TheVariants as did
use Rattle.epoch_coordinator.specs.Members.{MemberRole, MemberState, Stopped, Follower, Leader}
use Rattle.epoch_coordinator.specs.Coordinators.{CoordinatorState, Hears, hears, untold, stopped}
use Rattle.replication_laws.specs.Cluster.{ClusterState, Seat, Reign, last_number, letter_in}
use Rattle.replication_laws.specs.Events.{ClusterStep}
use Rattle.replication_laws.specs.Properties.{SoundWith}
use Rattle.cluster_core.specs.declared.mail.Numbered.{Numbered}
use Rattle.cluster_core.specs.declared.outcome.Outcome.{Outcome}
use Rattle.cluster_core.specs.declared.outcome.Outcome.TheVariants.{Did, Nothing, Later, Last, Differs, Memory}
use Rattle.cluster_core.specs.Parts.{lettered}
use Rattle.cluster_core.specs.Up.{is_up, has_job}

-- ---- what is kept

-- a stream, of which the reigns are left out, and of the coordinator and each member, by number from 0 on, the number of its next job, or of the one that is pending
pub record ReplicaState : Type 0 where
  pub cluster : ClusterState
  pub numbers : List ℕ

-- who is down is stopped, and is what its disk may have
abbrev pub shown_role : Bool → MemberRole → MemberRole
shown_role true role = role
shown_role false role = Stopped

abbrev pub seat_of : Bool → MemberState → Seat
seat_of up m = record { up = up; state = record m { role = shown_role up m.role } }

abbrev pub shown_phase : Bool → Phase → Phase
shown_phase true phase = phase
shown_phase false phase = Idle

abbrev pub shown_told : Bool → ℕ → List (Option Tail) → List (Option Tail)
shown_told true members told = told
shown_told false members told = untold members

abbrev pub coordinator_of : Bool → CoordinatorState → CoordinatorState
coordinator_of up c = record c { phase = shown_phase up c.phase; told = shown_told up c.members c.told }

abbrev pub cluster_of : List Seat → Bool → CoordinatorState → List Numbered → ℕ → List Chunk → ClusterState
cluster_of seats up c mail last committed = record {
  seats = seats;
  coordinator_up = up;
  coordinator = coordinator_of up c;
  reigns = [];
  mail = lettered mail;
  last = last;
  committed = committed;
}

abbrev pub state_of : List Seat → Bool → CoordinatorState → List Numbered → ℕ → List Chunk → List ℕ → ReplicaState
state_of seats up c mail last committed numbers = record { cluster = cluster_of seats up c mail last committed; numbers = numbers }

-- ---- what holds of it

-- with these reigns
abbrev pub reigned : List Reign → ClusterState → ClusterState
reigned reigns w = record w { reigns = reigns }

-- With some reigns, and opened in some epoch, a stream of 1 to 7 members is sound, and snapshots are truthful in all its logs.
pub record IsStream (w : ClusterState) : Type 0 where
  pub some : 1 ≤ length w.seats
  pub few : length w.seats ≤ 7
  pub opened : ℕ
  pub reigns : List Reign
  pub sound : SoundWith Truthful opened (reigned reigns w)

-- whatever the reigns are, with some reigns more it is one event of the laws
abbrev pub Happened : ℕ → ClusterState → ClusterState → Type 0
Happened now w w' = (reigns : List Reign) → (more : List Reign) × ClusterStep now (reigned reigns w) (reigned (more ++ reigns) w')

-- ---- members and messages

abbrev pub is_leader : MemberRole → Bool
is_leader Stopped = false
is_leader (Follower leader) = false
is_leader (Leader leading) = true

-- the coordinator takes Stopped alone
abbrev pub told_by : Message → CoordinatorState → Hears
told_by (messages.Stopped epoch from tail) c = stopped epoch from tail c
told_by (messages.Stop epoch) c = hears c did.Nothing
told_by (messages.Open epoch) c = hears c did.Nothing
told_by (messages.Follow epoch leader) c = hears c did.Nothing
told_by (messages.Shape epoch runs) c = hears c did.Nothing
told_by (messages.Ask epoch from tail) c = hears c did.Nothing
told_by (messages.Append epoch previous chunk) c = hears c did.Nothing

-- what an event that happened does: the members stay as many, and it is a step of the laws
pub record Goes (now : ℕ) (old after : ReplicaState) : Type 0 where
  pub same : length after.cluster.seats ≡ length old.cluster.seats
  pub step : Happened now old.cluster after.cluster

-- ---- what comes of an event

-- An event gives what is due. It happened where that is due, and the stream is as it is then; else it is unchanged, also where memory ran out.
abbrev pub Gives : Outcome → Outcome → ReplicaState → ReplicaState → ReplicaState → Type 0
Gives due Did old new after = (due ≡ Did) × (new ≡ after)
Gives due Nothing old new after = (due ≡ Nothing) × (new ≡ old)
Gives due (Later k) old new after = (due ≡ Later k) × (new ≡ old)
Gives due (Last epoch) old new after = (due ≡ Last epoch) × (new ≡ old)
Gives due (Differs expected found) old new after = (due ≡ Differs expected found) × (new ≡ old)
Gives due Memory old new after = new ≡ old

-- where it happened it is a step of the laws
abbrev pub IfDid : Outcome → Type 0 → Type 0
IfDid Did P = P
IfDid Nothing P = Unit {0}
IfDid (Later k) P = Unit {0}
IfDid (Last epoch) P = Unit {0}
IfDid (Differs expected found) P = Unit {0}
IfDid Memory P = Unit {0}

abbrev pub elect_due : ClusterState → Outcome
elect_due w = if not (is_up w 0) then Nothing else (if has_job w 0 then Later 0 else (if w.coordinator.epoch == last_number then Last w.coordinator.epoch else Did))

abbrev pub deliver_by : Option Sent → ClusterState → Outcome
deliver_by None w = Nothing
deliver_by (Some s) w = if not (is_up w s.to) then Nothing else (if has_job w s.to then Later s.to else Did)

-- a message comes where its receiver is up and has no job pending
abbrev pub deliver_due : ℕ → ClusterState → Outcome
deliver_due number w = deliver_by (letter_in number w.mail) w

abbrev pub lose_by : Option Sent → Outcome
lose_by None = Nothing
lose_by (Some s) = Did

abbrev pub lose_due : ℕ → ClusterState → Outcome
lose_due number w = lose_by (letter_in number w.mail)

abbrev pub number_at : ReplicaState → ℕ → ℕ
number_at r k = slice_index_or r.numbers k 0

-- a job of this number is pending
abbrev pub done_due : ℕ → ℕ → ReplicaState → Outcome
done_due k number r = if is_up r.cluster k && has_job r.cluster k && (number_at r k == number) then Did else Nothing

abbrev pub stop_due : ℕ → ClusterState → Outcome
stop_due k w = if is_up w k then Did else Nothing

abbrev pub begins_by : Option ℕ → ℕ → Bool
begins_by None epoch = false
begins_by (Some next) epoch = next == epoch

-- the disk may have this epoch: the durable one, or that of the job that was cut off
abbrev pub may_begin : CoordinatorState → ℕ → Bool
may_begin c epoch = (c.epoch == epoch) || begins_by c.job epoch

abbrev pub reopen_due : ℕ → ClusterState → Outcome
reopen_due epoch w = if w.coordinator_up then Nothing else (if may_begin w.coordinator epoch then Did else Differs w.coordinator.epoch epoch)

-- ---- numbers of jobs

abbrev pub next_number : ℕ → ℕ
next_number n = (n + 1) % 2 ^ 64

-- the number of the k-th goes on; numbers begin at 0 again after the greatest
abbrev pub counted_on : ℕ → List ℕ → List ℕ
counted_on k numbers = slice_set numbers k (next_number (slice_index_or numbers k 0))
