-- Claims on the committed list that wait until it reaches an end: what a confirm of an offer claims.
use Rattle.std.specs.Prelude.{◌≡◌, ℕ, ◌<◌, ◌⊎◌, List, [], ◌∷◌, ◌++◌}
use Rattle.std.specs.List.{AllByRecursion}
use Rattle.chunk_format.specs.declared.chunk.Chunk.{Chunk}
use Rattle.chunk_format.specs.declared.entry.Entry.{Entry}
use Rattle.chunk_format.specs.ByName.{Greatest, AtMost}
use Rattle.chunk_format.specs.Logs.{GoesOn, end_of, last_epoch, Linked, bare_in}
use Rattle.epoch_coordinator.specs.Members.{sequence_of}
use Rattle.replication_laws.specs.Cluster.{ClusterState, member, RunsWith}

-- the list has a beginning that ends there, of which the claim is true
pub record Stands (Says : List Chunk → Type 0) (end : ℕ) (list : List Chunk) : Type 0 where
  pub front : List Chunk
  pub begins : GoesOn front list
  pub end_is : end_of front ≡ end
  pub says : Says front

-- a claim of an epoch waits: the epoch runs with an open leader, the end is past the committed list, and the claim stands in the leader's sequence
pub record Awaits (Says : List Chunk → Type 0) (epoch end : ℕ) (w : ClusterState) : Type 0 where
  pub leader : ℕ
  pub runs : RunsWith w epoch leader
  pub past : end_of w.committed < end
  pub stands : Stands Says end (sequence_of (member w leader))

-- a claim was given, and not dropped: it waits, or it stands in the committed list
abbrev pub IsGiven : (List Chunk → Type 0) → ℕ → ClusterState → Type 0
IsGiven Says end w = ((epoch : ℕ) × Awaits Says epoch end w) ⊎ Stands Says end w.committed

-- chunks of the running epoch went behind the open leader's sequence, and nothing was committed by that
pub record IsBehind (w w' : ClusterState) : Type 0 where
  pub epoch : ℕ
  pub leader : ℕ
  pub chunks : List Chunk
  pub runs : RunsWith w epoch leader
  pub still_runs : RunsWith w' epoch leader
  pub sequence : sequence_of (member w' leader) ≡ sequence_of (member w leader) ++ chunks
  pub linked : Linked (end_of (sequence_of (member w leader))) (last_epoch (sequence_of (member w leader))) chunks
  pub each : AllByRecursion (λ (c : Chunk). c.epoch ≡ epoch) chunks
  pub committed_is : w'.committed ≡ w.committed

-- What the confirm of an offer claims: without a name its entries are the untagged rows of its own range, with one no id is above the greatest of the name.
abbrev pub Caused : List ℕ → List ℕ → List Entry → ℕ → ℕ → List Chunk → Type 0
Caused [] ids entries from end list = entries ≡ bare_in from end list
Caused (x ∷ name) ids entries from end list = AllByRecursion (λ (id : ℕ). AtMost id (Greatest (x ∷ name) list)) ids
