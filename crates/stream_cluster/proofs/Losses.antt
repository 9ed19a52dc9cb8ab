-- A message is lost.
use Rattle.std.proofs.Common.{◌≡◌, ℕ, Bool, List, Some, None, position, remove, slice_index_or, ap, ◌∙◌}
use Rattle.chunk_format.specs.declared.chunk.Chunk.{Chunk}
use Rattle.epoch_coordinator.specs.Coordinators.{CoordinatorState}
use Rattle.replication_laws.specs.Cluster.{Seat, Letter}
use Rattle.cluster_core.specs.declared.mail.Numbered.{Numbered}
use Rattle.cluster_core.specs.declared.outcome.Outcome.TheVariants.{Did, Nothing}
use Rattle.cluster_core.specs.Parts.{lettered, has_number}
use Rattle.cluster_core.specs.States.{ReplicaState, Gives, cluster_of, state_of, lose_by, lose_due}
use Rattle.cluster_core.specs.Kept.{after_lose}
use Rattle.cluster_core.proofs.Letters.{letter_none, letter_at, without_at}

module _ (seats : List Seat) (mail : List Numbered) (last : ℕ) (committed : List Chunk) (numbers : List ℕ) (up : Bool) (c : CoordinatorState) where
  abbrev mailed : List Letter → ReplicaState
  mailed m = record { cluster = record (cluster_of seats up c mail last committed) { mail = m }; numbers = numbers }

  pub lost : (number place : ℕ) (n : Numbered) (left : List Numbered) → position (has_number number) mail ≡ Some place → n ≡ slice_index_or mail place n → left ≡ remove mail place
      → Gives (lose_due number (cluster_of seats up c mail last committed)) Did (state_of seats up c mail last committed numbers) (state_of seats up c left last committed numbers) (after_lose number (state_of seats up c mail last committed numbers))
  lost number place n left at is gone = (
    ap lose_by (letter_at number mail place n at is),
    ap mailed (ap lettered gone ∙ without_at number mail place at),
  )

  pub not_lost : (number : ℕ) → position (has_number number) mail ≡ None → lose_due number (cluster_of seats up c mail last committed) ≡ Nothing
  not_lost number at = ap lose_by (letter_none number mail at)
