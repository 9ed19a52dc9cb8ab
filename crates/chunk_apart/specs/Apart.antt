-- Chunks whose header stands apart from their payload.
use Rattle.std.specs.Prelude.{ℕ, List, [], ◌++◌, Result, Ok, Err}
use Rattle.chunk_format.specs.declared.chunk.Header.{Header}
use Rattle.chunk_format.specs.declared.chunk.Chunk.{Chunk}
use Rattle.chunk_format.specs.declared.decode.ChunkError.{ChunkError}
use Rattle.chunk_format.specs.declared.decode.ChunkError.TheVariants.{Fault, Memory}
use Rattle.chunk_format.specs.Chunks.{header_bytes}
use Rattle.chunk_format.specs.Faults.{PartsWrong, ChunkWrong, BeginsWith}

-- the 48 bytes of a header that counts no trailer, and a payload
abbrev pub joined : Header → List ℕ → List ℕ
joined header payload = header_bytes (record header { trailer_len = 0 }) ++ payload

-- A chunk that was read begins the bytes, and a fault is the first check that fails; memory may have run out.
abbrev pub ReadsApart : List ℕ → Result Chunk ChunkError → Type 0
ReadsApart bytes (Ok chunk) = (used : ℕ) × BeginsWith chunk used bytes
ReadsApart bytes (Err (Fault fault)) = ChunkWrong bytes fault
ReadsApart bytes (Err Memory) = Unit {0}

-- the first check of a payload without a trailer that fails; memory may have run out
abbrev pub FailsParts : Header → List ℕ → ChunkError → Type 0
FailsParts header payload (Fault fault) = PartsWrong header payload [] fault
FailsParts header payload Memory = Unit {0}
