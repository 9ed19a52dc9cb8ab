-- Why a settle brings followers in step: each of them has a token, a message on its way that brings it on, and each delivery keeps it.
use Rattle.std.specs.Prelude.{◌≡◌, ◌≢◌, ℕ, ◌<◌, ◌≤◌, ◌⊎◌, true, false, List, [], ◌∷◌, Some, None}
use Rattle.chunk_format.specs.declared.chunk.Chunk.{Chunk}
use Rattle.chunk_format.specs.Logs.{end_of}
use Rattle.epoch_coordinator.specs.declared.tail.Tail.{Tail}
use Rattle.epoch_coordinator.specs.declared.tail.Run.{Run}
use Rattle.epoch_coordinator.specs.declared.message.Job.{Job}
use Rattle.epoch_coordinator.specs.declared.message.Message.TheVariants as messages
use Rattle.epoch_coordinator.specs.declared.message.Sent.{Sent}
use Rattle.epoch_coordinator.specs.declared.coordinator.Phase.TheVariants.{Running}
use Rattle.epoch_coordinator.specs.Tails.{tail_of}
use Rattle.epoch_coordinator.specs.Members.{Leading, MemberState, Stopped, Follower, Leader}
use Rattle.epoch_coordinator.specs.MemberSteps.{mail, can_open, ends_in, goes_on}
use Rattle.replication_laws.specs.Cluster.{Letter, ClusterState, seat, member, IsMember}
use Rattle.replication_laws.specs.Soundness.{acked}

-- an undelivered message whose number is one of these
abbrev pub OnItsWay : (ℕ → Type 0) → Sent → List Letter → Type 0
OnItsWay At s [] = ⊥
OnItsWay At s (l ∷ letters) = ((l.delivered ≡ false) × At l.number × (l.sent ≡ s)) ⊎ OnItsWay At s letters

abbrev pub Behind : ℕ → ℕ → Type 0
Behind low number = low < number

abbrev pub Exactly : ℕ → ℕ → Type 0
Exactly at number = number ≡ at

-- What brings a member on, that has promised the running epoch and doesn't lead it; its Ask has a number behind a first one.
pub data Token (w : ClusterState) (epoch leader low k : ℕ) (m : MemberState) : Type 0 where
  -- it tells the coordinator that it stopped
  Tells : (t : Tail) → m.role ≡ Stopped → OnItsWay (Behind 0) (mail 0 (messages.Stopped epoch k t)) w.mail → Token w epoch leader low k m
  -- it is told to follow
  Is_told : m.role ≡ Stopped → OnItsWay (Behind 0) (mail k (messages.Follow epoch leader)) w.mail → Token w epoch leader low k m
  -- it asks by its tail
  Asks : m.role ≡ Follower leader → OnItsWay (Behind low) (mail leader (messages.Ask epoch k (tail_of m.log))) w.mail → Token w epoch leader low k m
  -- the right chunk comes to it
  Gets : (c : Chunk) → m.role ≡ Follower leader → goes_on epoch (tail_of m.log) c m.log ≡ true → OnItsWay (Behind 0) (mail k (messages.Append epoch (tail_of m.log) c)) w.mail → Token w epoch leader low k m
  -- the shape of the leader's log comes to it, and its log has no chunk of the epoch
  Is_shaped : (runs : List Run) → m.role ≡ Follower leader → ends_in epoch m.log ≡ false → OnItsWay (Behind 0) (mail k (messages.Shape epoch runs)) w.mail → Token w epoch leader low k m
  -- it has a job, behind which it asks
  Works : (j : Job) → m.role ≡ Follower leader → m.job ≡ Some j → Token w epoch leader low k m
  -- it is in step: it acknowledged all that the leader has
  In_step : (l : Leading) → m.role ≡ Follower leader → (member w leader).role ≡ Leader l → (member w leader).job ≡ None → end_of (member w leader).log ≤ acked l.acknowledged k → Token w epoch leader low k m

-- the leader leads, or its Open is on its way, by its number, or it can't open
pub data LeaderToken (w : ClusterState) (epoch leader low : ℕ) : Type 0 where
  Leads : (l : Leading) → (member w leader).role ≡ Leader l → LeaderToken w epoch leader low
  Is_to_open : (member w leader).role ≡ Stopped → OnItsWay (Exactly low) (mail leader (messages.Open epoch)) w.mail → LeaderToken w epoch leader low

-- the coordinator runs an epoch, whose leader is up
pub record Running_by (w : ClusterState) (epoch leader : ℕ) : Type 0 where
  pub coordinator_up : w.coordinator_up ≡ true
  pub phase : w.coordinator.phase ≡ Running leader
  pub epoch_is : w.coordinator.epoch ≡ epoch
  pub idle : w.coordinator.job ≡ None
  pub is_member : IsMember w leader
  pub leader_up : (seat w leader).up ≡ true
  pub promised : (member w leader).promise ≡ epoch

-- everyone has a token: the leader, and each other member that is up and promised the epoch
pub record HasTokens (w : ClusterState) (epoch leader low : ℕ) : Type 0 where
  pub runs : Running_by w epoch leader
  pub leads : LeaderToken w epoch leader low
  pub low_given : low ≤ w.last
  pub each : (k : ℕ) → IsMember w k → (k ≢ leader) → (seat w k).up ≡ true → (member w k).promise ≡ epoch → Token w epoch leader low k (member w k)

-- the leader can't open: it stays stopped
pub record IsStuck (w : ClusterState) (epoch leader : ℕ) : Type 0 where
  pub runs : Running_by w epoch leader
  pub stopped : (member w leader).role ≡ Stopped
  pub cannot : can_open epoch (member w leader).log ≡ false
