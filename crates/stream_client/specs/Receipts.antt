-- What reading a delivery's chunk answers, and what its entries leave.
use Rattle.std.specs.Prelude.{◌≡◌, ℕ, List, ◌++◌, Option, Result, Ok, Err}
use Rattle.chunk_format.specs.declared.chunk.Chunk.{Chunk}
use Rattle.chunk_format.specs.declared.fault.ChunkFault.{ChunkFault}
use Rattle.chunk_format.specs.Faults.{BeginsWith, ChunkWrong}
use Rattle.client_terms.specs.declared.fault.ClientFault.{ClientFault}
use Rattle.client_terms.specs.declared.fault.ClientFault.TheVariants as faults
use Rattle.client_terms.specs.States.{ClientState, wanted_from}
use Rattle.client_terms.specs.Hearing.{told_last, received_from}

-- the bytes are no chunk, by the first check that fails
abbrev pub IsNoChunk : List ℕ → ClientFault → Type 0
IsNoChunk bytes fault = (refused : ChunkFault) × ChunkWrong bytes refused × (fault ≡ faults.Chunk refused)

abbrev pub FailsChunk : List ℕ → ClientFault → Type 0
FailsChunk bytes faults.Memory = Unit {0}
FailsChunk bytes (faults.Frame fault) = ⊥
FailsChunk bytes (faults.TooLarge size) = ⊥
FailsChunk bytes (faults.Chunk fault) = IsNoChunk bytes (faults.Chunk fault)
FailsChunk bytes (faults.Unexpected key) = ⊥
FailsChunk bytes (faults.Refused key code) = ⊥
FailsChunk bytes (faults.Closed code) = ⊥
FailsChunk bytes (faults.StreamLost code) = ⊥

-- The bytes begin with the chunk, or are none; memory may have run out.
abbrev pub ReadsChunk : List ℕ → Result Chunk ClientFault → Type 0
ReadsChunk bytes (Ok chunk) = (used : ℕ) × BeginsWith chunk used bytes
ReadsChunk bytes (Err fault) = FailsChunk bytes fault

-- a delivery was read, and so many credits are due
abbrev pub with_delivery : ClientState → Option ℕ → ℕ → ClientState
with_delivery s committed credits = record s { credits = credits; committed = told_last committed s.committed }

-- the entries of a chunk that the subscription wants stand behind those that were received
abbrev pub with_entries : ClientState → Chunk → ClientState
with_entries s chunk = record s { received = s.received ++ received_from (wanted_from s.spec) chunk.first chunk.entries }
