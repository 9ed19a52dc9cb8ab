-- A settle in which no job is answered by a fault and numbers last, and what it leaves.
use Rattle.std.specs.Prelude.{◌≡◌, ℕ, ◌<◌, true, Bool, List, [], ◌∷◌, length, None}
use Rattle.chunk_format.specs.Logs.{end_of}
use Rattle.epoch_coordinator.specs.declared.message.Message.TheVariants as messages
use Rattle.epoch_coordinator.specs.Members.{Leading, Stopped, Leader, sequence_of}
use Rattle.epoch_coordinator.specs.MemberSteps.{mail}
use Rattle.replication_laws.specs.Majorities.{IsMajority, is_voter}
use Rattle.replication_laws.specs.Cluster.{ClusterState, seat, member, last_number}
use Rattle.settling_laws.specs.Settling.{Answer, Receipt, Fault, Turn, SettleStep, Perform, Nudge, Follow_up, Deliver, Forget, last_turn}
use Rattle.settling_laws.specs.Tokens.{OnItsWay, Behind}

abbrev pub IsReceipt : Answer → Type 0
IsReceipt Receipt = Unit {0}
IsReceipt Fault = ⊥

-- a step whose job, if it answers one, is performed
abbrev pub IsPerformed : {now : ℕ} {old new : Turn} → SettleStep now old new → Type 0
IsPerformed {now = now} {old = old} {new = new} (Perform k a stage next eq) = IsReceipt a
IsPerformed {now = now} {old = old} {new = new} (Nudge stage next eq) = Unit {0}
IsPerformed {now = now} {old = old} {new = new} (Follow_up k a stage next eq) = IsReceipt a
IsPerformed {now = now} {old = old} {new = new} (Deliver number s stage none next is eq) = Unit {0}
IsPerformed {now = now} {old = old} {new = new} (Forget stage none next eq) = Unit {0}

-- and there are more numbers for messages
pub record CleanStep (now : ℕ) (old new : Turn) : Type 0 where
  pub step : SettleStep now old new
  pub performed : IsPerformed step
  pub room : new.cluster.last < last_number

abbrev pub CleanSteps : ℕ → Turn → List Turn → Type 0
CleanSteps now t [] = Unit {0}
CleanSteps now t (x ∷ xs) = CleanStep now t x × CleanSteps now x xs

-- such steps lead from one turn to another
pub record SettlesCleanly (now : ℕ) (old new : Turn) : Type 0 where
  pub turns : List Turn
  pub steps : CleanSteps now old turns
  pub ends : last_turn old turns ≡ new

-- the running leader leads, or it is stopped and its Open is on its way
pub data IsLed (w : ClusterState) (epoch leader : ℕ) : Type 0 where
  It_leads : (l : Leading) → (member w leader).role ≡ Leader l → IsLed w epoch leader
  It_opens : (member w leader).role ≡ Stopped → OnItsWay (Behind 0) (mail leader (messages.Open epoch)) w.mail → IsLed w epoch leader

-- more than half of the members are up and have promised an epoch
pub record HasMost (w : ClusterState) (epoch : ℕ) : Type 0 where
  pub voters : List Bool
  pub most : IsMajority (length w.seats) voters
  pub each : (k : ℕ) → is_voter voters k ≡ true → ((seat w k).up ≡ true) × ((member w k).promise ≡ epoch)

-- all is committed that the leader has: its log, and nothing stands behind it that could wait
pub record IsComplete (w : ClusterState) (leader : ℕ) : Type 0 where
  pub committed_all : end_of w.committed ≡ end_of (member w leader).log
  pub no_job : (member w leader).job ≡ None
  pub nothing_behind : end_of (sequence_of (member w leader)) ≡ end_of w.committed
