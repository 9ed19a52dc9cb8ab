-- Where the chunks of a log stand.
use Rattle.std.specs.Prelude.{◌≡◌, ◌⊎◌, ℕ, zero, suc, ◌+◌, ◌-◌, ◌≤◌, ◌<◌, ◌^◌, List, [], ◌∷◌, ◌++◌, length, leb, slice_get, Some, if◌then◌else◌}
use Rattle.disk_calls.specs.Disk.{DiskState}
use Rattle.chunk_format.specs.declared.chunk.Chunk.{Chunk}
use Rattle.chunk_format.specs.Chunks.{end_of_chunk}
use Rattle.segment_pairs.specs.Log.{size_of, segment_of}
use Rattle.segment_pairs.specs.Held.{Segment, Held, all_chunks}
use Rattle.chunk_format.specs.Logs.{GoesOn}
use Rattle.epoch_coordinator.specs.MemberSteps.{cut_at}
use Rattle.segment_store.specs.declared.rows.ChunkAt.{ChunkAt}
use Rattle.segment_store.specs.declared.rows.LastAt.{LastAt}

-- where a chunk stands: the segment, how many chunks are before it there, its places, its first offset and the first after it
abbrev pub row_of : ℕ → ℕ → ℕ → Chunk → ChunkAt
row_of segment nth place c = record {
  segment = segment;
  nth = nth;
  place = place;
  after = place + size_of c;
  end = end_of_chunk c;
}

-- the chunks of a segment from one on
abbrev pub rows_at : ℕ → ℕ → ℕ → List Chunk → List ChunkAt
rows_at segment nth place [] = []
rows_at segment nth place (c ∷ cs) = row_of segment nth place c ∷ rows_at segment (nth + 1) (place + size_of c) cs

-- the chunks of segments, the last segment first
abbrev pub rows_of : List Segment → List ChunkAt
rows_of [] = []
rows_of (x ∷ older) = rows_of older ++ rows_at x.number 0 8 x.chunks

-- there is a segment, and the last has chunks, where it isn't the only one
abbrev pub IsFilled : List Segment → Type 0
IsFilled [] = ⊥
IsFilled (x ∷ older) = (older ≡ []) ⊎ (0 < length x.chunks)

-- the files of a log are these segments, and the table tells where their chunks stand
pub record LogStands (stream : ℕ) (rows : List ChunkAt) (segments : List Segment) (s : DiskState) : Type 0 where
  pub held : Held stream segments s
  pub filled : IsFilled segments
  pub are : rows ≡ rows_of segments

-- the segments once a chunk is written: it begins a new one where that of the last chunk has at least 262,144 bytes
abbrev pub grown : List Segment → Chunk → List Segment
grown [] c = []
grown (x ∷ older) c = if leb 262144 (length (segment_of x.chunks))
    then record { number = c.first; chunks = c ∷ [] } ∷ x ∷ older
    else record { number = x.number; chunks = x.chunks ++ c ∷ [] } ∷ older

-- where the last row of a table ends, 0 where there is none
pub record EndsAt (rows : List ChunkAt) (n end : ℕ) : Type 0 where
  pub row : ChunkAt
  pub is : slice_get rows n ≡ Some row
  pub ends : row.end ≡ end

-- the first so many chunks end here
abbrev pub FrontEnds : List ChunkAt → ℕ → ℕ → Type 0
FrontEnds rows zero end = end ≡ 0
FrontEnds rows (suc n) end = EndsAt rows n end

-- the chunks that end at an offset or before it are the first so many
pub record IsKept (end : ℕ) (rows : List ChunkAt) (kept : ℕ) : Type 0 where
  pub within : kept ≤ length rows
  pub behind : (i : ℕ) (row : ChunkAt) → kept ≤ i → slice_get rows i ≡ Some row → end < row.end
  pub before : (row : ChunkAt) → 0 < kept → slice_get rows (kept - 1) ≡ Some row → row.end ≤ end

-- the last segment has chunks, or is the only one, which begins at 0
pub record CanLook (x : Segment) (older : List Segment) : Type 0 where
  pub filled : IsFilled (x ∷ older)
  pub first : older ≡ [] → x.number ≡ 0
  pub few : length x.chunks < 2 ^ 40

-- what is told of the last segment
pub record IsLast (x : Segment) (last : LastAt) : Type 0 where
  pub segment : last.segment ≡ x.number
  pub count : last.count ≡ length x.chunks
  pub size : last.size ≡ length (segment_of x.chunks)

-- a log may be cut at an offset in its last segment
pub record CanTrim (stream end kept : ℕ) (rows : List ChunkAt) (last : Segment) (older : List Segment) (s : DiskState) : Type 0 where
  pub stands : LogStands stream rows (last ∷ older) s
  pub low : (last.number < end) ⊎ (last.number ≡ 0)
  pub ends : FrontEnds rows kept end

-- the segments behind which an offset stands are gone: what is left of a log ends in the one where it is cut
pub record Dropped (stream end kept : ℕ) (rows : List ChunkAt) (segments : List Segment) (s : DiskState) : Type 0 where
  pub last : Segment
  pub older : List Segment
  pub can : CanTrim stream end kept rows last older s
  pub same : cut_at end (all_chunks (last ∷ older)) ≡ cut_at end (all_chunks segments)
  pub front : GoesOn (all_chunks (last ∷ older)) (all_chunks segments)

-- the last row is of a segment above 0 that begins at an offset or behind it
pub record IsBehind (end : ℕ) (rows : List ChunkAt) (row : ChunkAt) : Type 0 where
  pub is : slice_get rows (length rows - 1) ≡ Some row
  pub from : end ≤ row.segment
  pub some : 0 < row.segment

-- it isn't, or there is none
abbrev pub NoneBehind : ℕ → List ChunkAt → Type 0
NoneBehind end rows = (row : ChunkAt) → slice_get rows (length rows - 1) ≡ Some row → (row.segment < end) ⊎ (row.segment ≡ 0)
