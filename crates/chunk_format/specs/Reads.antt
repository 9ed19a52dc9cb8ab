-- What reading a chunk answers.
use Rattle.std.specs.Prelude.{◌≡◌, ℕ, List, Result, Ok, Err}
use Rattle.chunk_format.specs.declared.chunk.Chunk.{Chunk}
use Rattle.chunk_format.specs.declared.decode.ReadChunk.{ReadChunk}
use Rattle.chunk_format.specs.declared.decode.ChunkError.{ChunkError}
use Rattle.chunk_format.specs.declared.decode.ChunkError.TheVariants.{Fault, Memory}
use Rattle.chunk_format.specs.declared.stored.ReadStored.{ReadStored}
use Rattle.chunk_format.specs.Faults.{ChunkWrong, BeginsWith}

-- A chunk that was read begins the bytes, and a fault is the first check that fails; memory is wanted only for a chunk that is there.
abbrev pub Reads : List ℕ → Result ReadChunk ChunkError → Type 0
Reads bytes (Ok read) = BeginsWith read.chunk read.used bytes
Reads bytes (Err (Fault fault)) = ChunkWrong bytes fault
Reads bytes (Err Memory) = (chunk : Chunk) × (used : ℕ) × BeginsWith chunk used bytes

-- Where this chunk begins the bytes, it is read with its length, or memory ran out.
abbrev pub ReadsThis : Chunk → ℕ → Result ReadChunk ChunkError → Type 0
ReadsThis chunk used (Ok read) = (read.chunk ≡ chunk) × (read.used ≡ used)
ReadsThis chunk used (Err (Fault fault)) = ⊥
ReadsThis chunk used (Err Memory) = Unit {0}

-- What reading a stored chunk answers, as what reading the chunk answers.
abbrev pub as_read : Result ReadStored ChunkError → Result ReadChunk ChunkError
as_read (Ok read) = Ok (record { chunk = read.stored; used = read.used })
as_read (Err error) = Err error
