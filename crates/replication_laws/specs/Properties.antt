-- Properties of logs that no event takes away.
use Rattle.std.specs.Prelude.{◌≡◌, ℕ, ℤ, List, [], ◌∷◌, ◌++◌, Some}
use Rattle.std.specs.List.{All}
use Rattle.chunk_format.specs.declared.chunk.Chunk.{Chunk}
use Rattle.chunk_format.specs.Chunks.{IsChunk}
use Rattle.chunk_format.specs.Logs.{GoesOn, IsLog, opening_chunk}
use Rattle.epoch_coordinator.specs.declared.message.Message.TheVariants as messages
use Rattle.epoch_coordinator.specs.declared.message.Sent.{Sent}
use Rattle.epoch_coordinator.specs.Tails.{tail_of}
use Rattle.epoch_coordinator.specs.Members.{sequence_of}
use Rattle.epoch_coordinator.specs.MemberSteps.{stamp_at}
use Rattle.epoch_coordinator.specs.Offers.{Item, offered_chunks, stored_chunks}
use Rattle.replication_laws.specs.Cluster.{ClusterState, member, letter_in, Holds}
use Rattle.replication_laws.specs.Events.{IsOffer, OfferStep, Offer, StoreOffset}
use Rattle.replication_laws.specs.Soundness.{Tree, Sound, IsCommitted}

-- No chunks have it, each beginning of a log with it has it, and so has the log with an opening chunk behind it.
pub record IsLogProperty (Q : List Chunk → Type 0) : Type 0 where
  pub none : Q []
  pub beginnings : (front log : List Chunk) → GoesOn front log → Q log → Q front
  pub openings : (epoch : ℕ) (stamp : ℤ) (log : List Chunk) → IsLog log → Q log → Q (log ++ opening_chunk epoch stamp log ∷ [])

-- every offer and every stored offset keep it
pub record IsKeptByOffers (Q : List Chunk → Type 0) : Type 0 where
  pub offers : (epoch : ℕ) (stamp : ℤ) (name : List ℕ) (log : List Chunk) (items : List Item) → IsOffer name items → All IsChunk (offered_chunks epoch stamp name log items) → Q log → Q (log ++ offered_chunks epoch stamp name log items)
  pub offsets : (epoch : ℕ) (stamp : ℤ) (name : List ℕ) (offset : ℕ) (log : List Chunk) → All IsChunk (stored_chunks epoch stamp name offset log) → Q log → Q (log ++ stored_chunks epoch stamp name offset log)

-- the leader's sequence keeps it with what this offer puts behind it
abbrev pub KeepsAt : (List Chunk → Type 0) → {now : ℕ} {w w' : ClusterState} → OfferStep now w w' → Type 0
KeepsAt Q {now = now} {w = w} (Offer epoch k name items runs right all eq) = Q (sequence_of (member w k)) → Q (sequence_of (member w k) ++ offered_chunks epoch (stamp_at now) name (sequence_of (member w k)) items)
KeepsAt Q {now = now} {w = w} (StoreOffset epoch k name offset runs all eq) = Q (sequence_of (member w k)) → Q (sequence_of (member w k) ++ stored_chunks epoch (stamp_at now) name offset (sequence_of (member w k)))

-- A sound stream whose longest logs and sequences have a property.
pub record SoundWith (Q : List Chunk → Type 0) (opened : ℕ) (w : ClusterState) : Type 0 where
  pub tree : Tree
  pub sound : Sound tree opened w
  pub reached : IsCommitted w
  pub canon : (e : ℕ) → Q (tree.canon e)
  pub each : (k : ℕ) → Q (sequence_of (member w k))

-- Each log that a disk may have has it, what each member will have written, the committed list, and a log with an Append behind it that goes on from it.
pub record AllHave (Q : List Chunk → Type 0) (w : ClusterState) : Type 0 where
  pub held : (k : ℕ) (h : List Chunk) → Holds (member w k) h → Q h
  pub sequences : (k : ℕ) → Q (sequence_of (member w k))
  pub committed : Q w.committed
  pub appends : (k number epoch : ℕ) (c : Chunk) (s : Sent) → letter_in number w.mail ≡ Some s → s.message ≡ messages.Append epoch (tail_of (member w k).log) c → Q ((member w k).log ++ c ∷ [])
