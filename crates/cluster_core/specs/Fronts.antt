-- Two logs, and where they part.
use Rattle.std.specs.Prelude.{◌≡◌, ℕ, ◌<◌, true, List, length, slice_index_or}
use Rattle.chunk_format.specs.declared.chunk.Chunk.{Chunk}
use Rattle.epoch_coordinator.specs.MemberSteps.{has_epoch}

-- at a place, which both have, they have different chunks
abbrev pub Differ : List Chunk → List Chunk → ℕ → Type 0
Differ one other at = (x y : Chunk) → at < length one → at < length other → x ≡ slice_index_or one at x → y ≡ slice_index_or other at y → x ≡ y → ⊥

-- both have a chunk of some epoch
abbrev pub Shares : List Chunk → List Chunk → Type 0
Shares one other = (epoch : ℕ) × (has_epoch epoch one ≡ true) × (has_epoch epoch other ≡ true)

abbrev pub SharesNone : List Chunk → List Chunk → Type 0
SharesNone one other = (epoch : ℕ) → has_epoch epoch one ≡ true → has_epoch epoch other ≡ true → ⊥
