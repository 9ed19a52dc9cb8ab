-- What stands in front of bytes that may go on.
use Rattle.std.specs.Prelude.{◌≡◌, ℕ, ◌++◌, List, Option, Some, None}
use Rattle.chunk_format.specs.declared.chunk.Chunk.{Chunk}
use Rattle.chunk_format.specs.Faults.{BeginsWith}
use Rattle.segment_pairs.specs.Log.{size_of}
use Rattle.osiris_audit.specs.declared.front.Front.{Front}
use Rattle.osiris_audit.specs.declared.front.Front.TheVariants as front

-- no chunk stands in front
abbrev pub NoChunk : List ℕ → Type 0
NoChunk bytes = (c : Chunk) (used : ℕ) → BeginsWith c used bytes → ⊥

-- a chunk, or none so far, or none whatever follows
abbrev pub Stands : List ℕ → Front → Type 0
Stands bytes (front.Chunk c) = BeginsWith c (size_of c) bytes
Stands bytes front.More = NoChunk bytes
Stands bytes front.Never = (more : List ℕ) → NoChunk (bytes ++ more)

-- a chunk may begin at any offset where none stands before it, else where that ends
abbrev pub MayBegin : Option ℕ → ℕ → Type 0
MayBegin None first = Unit {0}
MayBegin (Some end) first = first ≡ end
