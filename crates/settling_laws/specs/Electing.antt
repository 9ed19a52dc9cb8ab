-- An election within a settle: each member that promised the epoch has told the coordinator, or its word is on its way.
use Rattle.std.specs.Prelude.{◌≡◌, ℕ, suc, ◌<◌, ◌⊎◌, true, false, length, slice_index_or, Some, None}
use Rattle.epoch_coordinator.specs.declared.tail.Tail.{Tail}
use Rattle.epoch_coordinator.specs.declared.message.Job.TheVariants.{Promise}
use Rattle.epoch_coordinator.specs.declared.message.Message.TheVariants as messages
use Rattle.epoch_coordinator.specs.declared.coordinator.Phase.TheVariants.{Electing, Running}
use Rattle.epoch_coordinator.specs.MemberSteps.{mail, is_majority}
use Rattle.epoch_coordinator.specs.Coordinators.{is_told, repliers}
use Rattle.replication_laws.specs.Cluster.{ClusterState, seat, member, IsMember}
use Rattle.settling_laws.specs.Tokens.{OnItsWay, Behind}

-- the coordinator elects in an epoch
pub record Electing_in (w : ClusterState) (epoch : ℕ) : Type 0 where
  pub coordinator_up : w.coordinator_up ≡ true
  pub phase : w.coordinator.phase ≡ Electing
  pub epoch_is : w.coordinator.epoch ≡ epoch
  pub idle : w.coordinator.job ≡ None

-- the coordinator elects, or is to make the epoch durable
abbrev pub Elects_next : ClusterState → ℕ → Type 0
Elects_next w epoch = Electing_in w epoch ⊎ ((w.coordinator_up ≡ true) × (w.coordinator.job ≡ Some epoch))

-- of each member, by its place, that is up and has promised the epoch
pub record HasWords (w : ClusterState) (epoch : ℕ) : Type 0 where
  pub elects : Electing_in w epoch
  pub each : (i : ℕ) → i < length w.seats → (seat w (suc i)).up ≡ true → (member w (suc i)).promise ≡ epoch
      → (is_told (slice_index_or w.coordinator.told i None) ≡ true) ⊎ ((t : Tail) × OnItsWay (Behind 0) (mail 0 (messages.Stopped epoch (suc i) t)) w.mail)

-- an epoch runs, whose leader is down
pub record IsLost (w : ClusterState) (epoch leader : ℕ) : Type 0 where
  pub coordinator_up : w.coordinator_up ≡ true
  pub phase : w.coordinator.phase ≡ Running leader
  pub epoch_is : w.coordinator.epoch ≡ epoch
  pub idle : w.coordinator.job ≡ None
  pub is_member : IsMember w leader
  pub down : (seat w leader).up ≡ false

-- While it elects and everyone is up: each member has promised the epoch, is about to, or is told to stop; and no majority told yet, or a word is on its way.
pub record HasCalls (w : ClusterState) (epoch : ℕ) : Type 0 where
  pub all_up : (i : ℕ) → i < length w.seats → (seat w (suc i)).up ≡ true
  pub called : (i : ℕ) → i < length w.seats
      → ((member w (suc i)).promise ≡ epoch) ⊎ (((member w (suc i)).job ≡ Some (Promise epoch)) ⊎ OnItsWay (Behind 0) (mail (suc i) (messages.Stop epoch)) w.mail)
  pub vote : (is_majority w.coordinator.members (repliers w.coordinator.told) ≡ false) ⊎ ((i : ℕ) × (t : Tail) × (i < length w.seats) × OnItsWay (Behind 0) (mail 0 (messages.Stopped epoch (suc i) t)) w.mail)
