-- What soundness says of holdings, messages and reigns, without a tree of logs.
use Rattle.std.specs.Prelude.{◌≡◌, ℕ, ◌<◌, ◌≤◌, ◌≢◌, ◌⊎◌, ◌↔◌, true, List, [], ◌∷◌, ◌++◌, Some, None}
use Rattle.chunk_format.specs.declared.chunk.Chunk.{Chunk}
use Rattle.chunk_format.specs.Chunks.{end_of_chunk}
use Rattle.chunk_format.specs.Logs.{GoesOn, last_epoch, IsLog, HasRun}
use Rattle.epoch_coordinator.specs.declared.tail.Tail.{Tail}
use Rattle.epoch_coordinator.specs.declared.tail.Run.{Run}
use Rattle.epoch_coordinator.specs.declared.message.Job.TheVariants.{Promise, Write}
use Rattle.epoch_coordinator.specs.declared.message.Message.{Message}
use Rattle.epoch_coordinator.specs.declared.message.Message.TheVariants as messages
use Rattle.epoch_coordinator.specs.declared.message.Sent.{Sent}
use Rattle.epoch_coordinator.specs.declared.coordinator.Phase.TheVariants.{Electing}
use Rattle.epoch_coordinator.specs.Tails.{tail_of}
use Rattle.epoch_coordinator.specs.Members.{Leading, Leader}
use Rattle.epoch_coordinator.specs.MemberSteps.{epoch_of, has_epoch}
use Rattle.epoch_coordinator.specs.Coordinators.{Told}
use Rattle.replication_laws.specs.Majorities.{is_voter}
use Rattle.replication_laws.specs.Cluster.{Reign, ClusterState, member, durable, reign, InRuns, letter_in, Holds}
use Rattle.replication_laws.specs.Openings.{upto}
use Rattle.replication_laws.specs.Soundness.{HasReign, LeadsEpoch, Lacks, AllReach, acked, IsCalm}

-- ---- what occurs

-- a chunk occurs, behind a tail: in a log that a disk may have, or in an Append on its way
pub data Occurs (w : ClusterState) (c : Chunk) (t : Tail) : Type 0 where
  In_holding : (k : ℕ) (h front rest : List Chunk) → Holds (member w k) h → h ≡ (front ++ c ∷ []) ++ rest → tail_of front ≡ t → Occurs w c t
  In_append : (number epoch : ℕ) (s : Sent) → letter_in number w.mail ≡ Some s → s.message ≡ messages.Append epoch t c → Occurs w c t

-- a message is on its way
abbrev pub IsOnItsWay : ClusterState → ℕ → Message → Type 0
IsOnItsWay w to message = (number : ℕ) × (s : Sent) × (letter_in number w.mail ≡ Some s) × (s.to ≡ to) × (s.message ≡ message)

-- an Ask of a member in an epoch, for what comes behind an end of that epoch, is on its way or was counted by a leader
pub data Asked (w : ClusterState) (epoch from end : ℕ) : Type 0 where
  On_its_way : (to : ℕ) (t : Tail) → IsOnItsWay w to (messages.Ask epoch from t) → t.epoch ≡ epoch → t.end ≡ end → Asked w epoch from end
  Counted : (k : ℕ) (l : Leading) → (member w k).role ≡ Leader l → (member w k).promise ≡ epoch → 0 < acked l.acknowledged from → acked l.acknowledged from ≡ end → Asked w epoch from end

-- ---- the clauses

-- Each holding is contiguous from 0, its epochs don't fall and don't pass the member's promise. No promise, Promise job or message passes the
-- durable epoch. Each elector of a reign has promised its epoch.
pub record Bounded (w : ClusterState) : Type 0 where
  pub holdings : (k : ℕ) (h : List Chunk) → Holds (member w k) h → IsLog h × (last_epoch h ≤ (member w k).promise)
  pub promises : (k : ℕ) → (member w k).promise ≤ durable w
  pub jobs : (k epoch : ℕ) → (member w k).job ≡ Some (Promise epoch) → epoch ≤ durable w
  pub mail : (to : ℕ) (message : Message) → IsOnItsWay w to message → epoch_of message ≤ durable w
  pub electors : (epoch k : ℕ) (r : Reign) → reign w epoch ≡ Some r → is_voter r.electors k ≡ true → epoch ≤ (member w k).promise

-- two occurrences with one epoch and one first offset are the same chunk with the same tail before it
abbrev pub OccurrencesAgree : ClusterState → Type 0
OccurrencesAgree w = (a b : Chunk) (t u : Tail) → Occurs w a t → Occurs w b u → a.epoch ≡ b.epoch → a.first ≡ b.first → (a ≡ b) × (t ≡ u)

-- the first chunk of an epoch stands in a log behind what has just these runs, all of earlier epochs
pub record OpensBehind (runs : List Run) (epoch : ℕ) (log : List Chunk) : Type 0 where
  pub front : List Chunk
  pub first : Chunk
  pub rest : List Chunk
  pub parts : log ≡ front ++ first ∷ rest
  pub epoch_is : first.epoch ≡ epoch
  pub earlier : last_epoch front < epoch
  pub exact : (d m : ℕ) → InRuns runs d m ↔ HasRun front d m

-- In each holding with a chunk of a reign's epoch that epoch opens behind exactly the reign's runs. Of two holdings that both have a chunk of one
-- epoch, one begins the other up to that epoch. Each chunk that occurs has an epoch from before the opening, or that of a reign.
pub record EpochsOpen (opened : ℕ) (w : ClusterState) : Type 0 where
  pub held : (epoch k : ℕ) (r : Reign) (h : List Chunk) → reign w epoch ≡ Some r → Holds (member w k) h → has_epoch epoch h ≡ true → OpensBehind r.runs epoch h
  pub agree : (epoch a b : ℕ) (ha hb : List Chunk) → Holds (member w a) ha → Holds (member w b) hb → has_epoch epoch ha ≡ true → has_epoch epoch hb ≡ true
      → GoesOn (upto epoch ha) (upto epoch hb) ⊎ GoesOn (upto epoch hb) (upto epoch ha)
  pub known : (c : Chunk) (t : Tail) → Occurs w c t → (c.epoch ≤ opened) ⊎ HasReign w c.epoch

-- Open goes to the leader of its reign alone; Follow names it and goes to others; a Shape has the reign's runs; an Append has a chunk that follows its
-- tail in the leader's log, as long as the leader's promise is the epoch; a member in the role of leader is that leader, and its holdings have exactly
-- the reign's runs below the epoch; each chunk of its epoch that occurs stands then in its log, but for the chunk that it is writing.
pub record LeadersLead (w : ClusterState) : Type 0 where
  pub told_open : (epoch to : ℕ) → IsOnItsWay w to (messages.Open epoch) → LeadsEpoch w epoch to
  pub told_follow : (epoch leader to : ℕ) → IsOnItsWay w to (messages.Follow epoch leader) → LeadsEpoch w epoch leader × (to ≢ leader)
  pub told_shape : (epoch to : ℕ) (runs : List Run) → IsOnItsWay w to (messages.Shape epoch runs) → (r : Reign) × (reign w epoch ≡ Some r) × ((d m : ℕ) → InRuns runs d m ↔ InRuns r.runs d m)
  pub sent : (epoch to k : ℕ) (t : Tail) (c : Chunk) → IsOnItsWay w to (messages.Append epoch t c) → LeadsEpoch w epoch k → (member w k).promise ≡ epoch
      → (front : List Chunk) × (rest : List Chunk) × ((member w k).log ≡ (front ++ c ∷ []) ++ rest) × (tail_of front ≡ t)
  pub leads : (k : ℕ) (l : Leading) → (member w k).role ≡ Leader l → LeadsEpoch w (member w k).promise k
  pub held : (k d m : ℕ) (r : Reign) (h : List Chunk) → LeadsEpoch w (member w k).promise k → reign w (member w k).promise ≡ Some r → Holds (member w k) h → d < (member w k).promise → HasRun h d m ↔ InRuns r.runs d m
  pub stands : (k : ℕ) (c : Chunk) (t : Tail) → LeadsEpoch w (member w k).promise k → Occurs w c t → c.epoch ≡ (member w k).promise
      → ((front : List Chunk) × (rest : List Chunk) × ((member w k).log ≡ (front ++ c ∷ []) ++ rest) × (tail_of front ≡ t)) ⊎ ((member w k).job ≡ Some (Write c))

-- While the coordinator elects there is no reign of its epoch, and messages of that epoch are Stop and Stopped alone; the sender of each Stopped, on its
-- way or kept, has that promise, is stopped or down with no job that changes its log, and has that tail.
pub record ElectionsAreStill (w : ClusterState) : Type 0 where
  pub new : w.coordinator.phase ≡ Electing → reign w (durable w) ≡ None
  pub alone : (to : ℕ) (message : Message) → w.coordinator.phase ≡ Electing → IsOnItsWay w to message → epoch_of message ≡ durable w
      → (message ≡ messages.Stop (durable w)) ⊎ ((from : ℕ) × (t : Tail) × (message ≡ messages.Stopped (durable w) from t))
  pub replies : (to from : ℕ) (t : Tail) → w.coordinator.phase ≡ Electing → IsOnItsWay w to (messages.Stopped (durable w) from t) ⊎ Told 1 w.coordinator.told from t
      → ((member w from).promise ≡ durable w) × IsCalm (member w from) × (tail_of (member w from).log ≡ t)

-- What an Ask says its sender has: each end of a chunk of its epoch up to there is in each of the sender's holdings, or a later reign that the sender
-- promised lacks it; and each later reign that the sender elected has it, or a reign between lacks it.
pub record AsksAreTrue (w : ClusterState) : Type 0 where
  pub held : (epoch from end : ℕ) (c : Chunk) (t : Tail) → Asked w epoch from end → Occurs w c t → c.epoch ≡ epoch → end_of_chunk c ≤ end
      → AllReach (member w from) epoch (end_of_chunk c) ⊎ Lacks w.reigns epoch (end_of_chunk c) (member w from).promise
  pub elected : (epoch from end later : ℕ) (c : Chunk) (t : Tail) (r : Reign) → Asked w epoch from end → Occurs w c t → c.epoch ≡ epoch → end_of_chunk c ≤ end
      → reign w later ≡ Some r → epoch < later → is_voter r.electors from ≡ true
      → InRuns r.runs epoch (end_of_chunk c) ⊎ ((between : ℕ) × (between < later) × Lacks w.reigns epoch (end_of_chunk c) between)
