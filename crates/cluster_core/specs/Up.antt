-- Who is up, and the epoch that runs.
use Rattle.std.specs.Prelude.{ℕ, zero, suc, Bool, ◌&&◌, ◌==◌, if◌then◌else◌, nat_lt, is_some, length, Option, Some, None}
use Rattle.epoch_coordinator.specs.declared.coordinator.Phase.{Phase}
use Rattle.epoch_coordinator.specs.declared.coordinator.Phase.TheVariants.{Idle, Electing, Running}
use Rattle.replication_laws.specs.Cluster.{ClusterState, seat, member, durable, is_opened}

-- the coordinator, number 0, or a member is there and up
abbrev pub is_up : ClusterState → ℕ → Bool
is_up w zero = w.coordinator_up
is_up w (suc i) = nat_lt i (length w.seats) && (seat w (suc i)).up

abbrev pub has_job : ClusterState → ℕ → Bool
has_job w zero = is_some w.coordinator.job
has_job w (suc i) = is_some (member w (suc i)).job

-- a member is up and is the opened leader of an epoch
abbrev pub is_open_in : ClusterState → ℕ → ℕ → Bool
is_open_in w leader epoch = is_up w leader && ((member w leader).promise == epoch) && is_opened (member w leader).role

abbrev pub running_by : Phase → ClusterState → Option ℕ
running_by Idle w = None
running_by Electing w = None
running_by (Running leader) w = if w.coordinator_up && is_open_in w leader (durable w) then Some (durable w) else None

-- the epoch that runs with an open leader
abbrev pub running : ClusterState → Option ℕ
running w = running_by w.coordinator.phase w

-- the leader of the epoch that runs, or 0
abbrev pub leader_by : Phase → ℕ
leader_by Idle = 0
leader_by Electing = 0
leader_by (Running leader) = leader
