-- Who leads.
use Rattle.std.specs.Prelude.{ℕ, zero, suc, Bool, false, ◌&&◌, ◌==◌, nat_lt, List, length, slice_index_or, ◌≡◌, ◌⊎◌, true, Some, None}
use Rattle.epoch_coordinator.specs.declared.message.Job.{Job}
use Rattle.replication_laws.specs.Cluster.{ClusterState, Seat, nobody, is_opened, member}
use Rattle.cluster_core.specs.Up.{is_up}
use Rattle.cluster_core.specs.States.{ReplicaState, number_at}

-- a member is up and is the opened leader of an epoch
abbrev pub seat_leads : ℕ → Seat → Bool
seat_leads epoch s = s.up && (s.state.promise == epoch) && is_opened s.state.role

-- there is a seat at a place, and its member does
abbrev pub place_leads : ℕ → List Seat → ℕ → Bool
place_leads epoch seats place = nat_lt place (length seats) && seat_leads epoch (slice_index_or seats place nobody)

-- a member, which isn't the coordinator, is there and up
abbrev pub is_member_up : ClusterState → ℕ → Bool
is_member_up w zero = false
is_member_up w (suc i) = is_up w (suc i)

-- ---- jobs

-- a member that is up has this job, of this number
pub record JobShown (k number : ℕ) (job : Job) (r : ReplicaState) : Type 0 where
  pub is_member : is_member_up r.cluster k ≡ true
  pub is_job : (member r.cluster k).job ≡ Some job
  pub is_number : number ≡ number_at r k

-- a member isn't up, or has none
abbrev pub HasNoJob : ℕ → ReplicaState → Type 0
HasNoJob k r = (is_member_up r.cluster k ≡ false) ⊎ ((member r.cluster k).job ≡ None)

-- the coordinator is up and is to make an epoch durable, by a job of this number
pub record EpochShown (number epoch : ℕ) (r : ReplicaState) : Type 0 where
  pub is_there : r.cluster.coordinator_up ≡ true
  pub is_job : r.cluster.coordinator.job ≡ Some epoch
  pub is_number : number ≡ number_at r 0

-- it isn't up, or has no job
abbrev pub HasNoEpoch : ReplicaState → Type 0
HasNoEpoch r = (r.cluster.coordinator_up ≡ false) ⊎ (r.cluster.coordinator.job ≡ None)
