-- What a program has in hand of a member's log.
use Rattle.std.specs.Prelude.{ℕ, ◌^◌, List, length}
use Rattle.disk_calls.specs.Disk.{DiskState}
use Rattle.segment_pairs.specs.Held.{Segment, MissingFrom}
use Rattle.segment_store.specs.declared.rows.ChunkAt.{ChunkAt}
use Rattle.segment_store.specs.Rows.{LogStands, FrontEnds}

-- the stream, and where each chunk stands
pub record LogInHand : Type 0 where
  pub stream : ℕ
  pub rows : List ChunkAt

-- what is in hand tells of these segments, which are the files
abbrev pub Standing : LogInHand → List Segment → DiskState → Type 0
Standing log segments s = LogStands log.stream log.rows segments s

-- the log ends at this offset
abbrev pub LogEnds : LogInHand → ℕ → Type 0
LogEnds log end = FrontEnds log.rows (length log.rows) end

-- some chunk of the log ends at this offset, or it is 0
abbrev pub EndsChunk : LogInHand → ℕ → Type 0
EndsChunk log end = (kept : ℕ) × FrontEnds log.rows kept end

-- no file of a stream's log is there
abbrev pub NoLog : ℕ → DiskState → Type 0
NoLog stream s = MissingFrom stream 0 (2 ^ 64) s
