-- A stream of one member on literals, for steps that are none of a settle.
use Rattle.std.specs.Prelude.{ℕ, Bool, true, false, List, [], ◌∷◌, Option, Some, None}
use Rattle.epoch_coordinator.specs.declared.message.Job.{Job}
use Rattle.epoch_coordinator.specs.declared.message.Job.TheVariants.{Promise}
use Rattle.epoch_coordinator.specs.declared.message.Message.TheVariants as messages
use Rattle.epoch_coordinator.specs.Members.{Stopped}
use Rattle.epoch_coordinator.specs.MemberSteps.{mail}
use Rattle.epoch_coordinator.specs.Coordinators.{opened_with}
use Rattle.replication_laws.specs.Cluster.{Letter, ClusterState}

-- one member that is up and stopped, and an idle coordinator
abbrev pub alone : Option Job → List Letter → ℕ → ClusterState
alone job letters last = record {
  seats = record { up = true; state = record { number = 1; members = 1; promise = 1; role = Stopped; log = []; job = job } } ∷ [];
  coordinator_up = true;
  coordinator = opened_with 1 1;
  reigns = [];
  mail = letters;
  last = last;
  committed = [];
}

abbrev pub a_stop : Bool → Letter
a_stop delivered = record { number = 1; delivered = delivered; sent = mail 1 (messages.Stop 1) }

-- a message waits
abbrev pub waiting : ClusterState
waiting = alone None (a_stop false ∷ []) 1

-- it was delivered
abbrev pub delivered : ClusterState
delivered = alone None (a_stop true ∷ []) 1

-- nothing is on its way
abbrev pub calm : ClusterState
calm = alone None [] 0

-- an epoch is to be promised
abbrev pub busy : ClusterState
busy = alone (Some (Promise 2)) [] 0
