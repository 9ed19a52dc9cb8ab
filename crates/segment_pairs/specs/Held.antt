-- The segments of a stream on a disk that a crash may stop.
use Rattle.std.specs.Prelude.{◌≡◌, ◌≢◌, ◌⊎◌, ℕ, ◌+◌, ◌^◌, ◌≤◌, ◌<◌, List, [], ◌∷◌, ◌++◌, length, take, None}
use Rattle.disk_calls.specs.declared.file_id.FileId.{FileId}
use Rattle.disk_calls.specs.declared.file_id.FileName.TheVariants as name
use Rattle.disk_calls.specs.Disk.{DiskState, Image, bytes_of, Settled, Only}
use Rattle.disk_calls.specs.Frames.{Besides}
use Rattle.chunk_format.specs.declared.chunk.Chunk.{Chunk}
use Rattle.chunk_format.specs.Chunks.{IsChunk}
use Rattle.chunk_format.specs.Logs.{end_from, end_of}
use Rattle.segment_pairs.specs.Log.{Finder, NoMatch, Pair, LogOf, pair_log, Chain, segment_of, index_of}

abbrev pub segment_file : ℕ → ℕ → FileId
segment_file stream n = record { stream = stream; file = name.Segment n }

abbrev pub index_file : ℕ → ℕ → FileId
index_file stream n = record { stream = stream; file = name.Index n }

-- a segment: its number and its chunks
pub record Segment : Type 0 where
  pub number : ℕ
  pub chunks : List Chunk

-- the chunks of segments, the last segment first
abbrev pub all_chunks : List Segment → List Chunk
all_chunks [] = []
all_chunks (x ∷ older) = all_chunks older ++ x.chunks

-- one image of each file, as a crash may take them
abbrev pub Picks : DiskState → (FileId → Image) → Type 0
Picks s pick = (f : FileId) → s.images f (pick f)

-- the segments and indexes of a stream among files, by number
abbrev pub files_of : ℕ → (FileId → Image) → ℕ → Pair
files_of stream pick n = (bytes_of (pick (segment_file stream n)), bytes_of (pick (index_file stream n)))

-- this holds of the log that each crash leaves
abbrev pub EachLog : ℕ → (List Chunk → Type 0) → DiskState → Type 0
EachLog stream P s = (F : Finder) (pick : FileId → Image) → Picks s pick → P (LogOf F (files_of stream pick))

-- each image has the log of one from before
abbrev pub KeepsLog : ℕ → DiskState → DiskState → Type 0
KeepsLog stream old new =
    (pick : FileId → Image) → Picks new pick → (before : FileId → Image) × Picks old before × ((F : Finder) → LogOf F (files_of stream pick) ≡ LogOf F (files_of stream before))

-- the log of what a read gives
abbrev pub seen_log : Finder → ℕ → DiskState → List Chunk
seen_log F stream s = LogOf F (files_of stream s.seen)

-- the log of before or after
abbrev pub OldOrNew : List Chunk → Chunk → List Chunk → Type 0
OldOrNew old c log = (log ≡ old) ⊎ (log ≡ old ++ c ∷ [])

-- a front of these chunks, of at least so many
pub record Front (least : ℕ) (cs log : List Chunk) : Type 0 where
  pub size : ℕ
  pub enough : least ≤ size
  pub is : log ≡ take size cs

-- ---- files that stand

-- no file of this number is there, and no index comes back: a segment that could not be removed may
pub record Missing (stream n : ℕ) (s : DiskState) : Type 0 where
  pub segment : s.seen (segment_file stream n) ≡ None
  pub index : Only None (s.images (index_file stream n))

abbrev pub MissingFrom : ℕ → ℕ → ℕ → DiskState → Type 0
MissingFrom stream low top s = (n : ℕ) → low ≤ n → n < top → Missing stream n s

-- a segment and its index are these chunks and nothing else, all of it on the disk
pub record Stands (stream : ℕ) (x : Segment) (s : DiskState) : Type 0 where
  pub segment : Settled (segment_file stream x.number) (segment_of x.chunks) s
  pub index : Settled (index_file stream x.number) (index_of x.chunks) s
  pub chain : Chain 8 x.number x.chunks

-- the last of the segments below a number, behind the older ones: it begins where their log ends
pub record LastBelow (stream top : ℕ) (x : Segment) (older : List Segment) (s : DiskState) (Older : Type 0) : Type 0 where
  pub under : x.number < top
  pub follows : x.number ≡ end_of (all_chunks older)
  pub stands : Stands stream x s
  pub above : MissingFrom stream (x.number + 1) top s
  pub below : Older

-- the files of numbers below this are these segments, the last first, and each begins where the log before it ends
abbrev pub HeldBelow : ℕ → ℕ → List Segment → DiskState → Type 0
HeldBelow stream top [] s = MissingFrom stream 0 top s
HeldBelow stream top (x ∷ older) s = LastBelow stream top x older s (HeldBelow stream x.number older s)

-- the files of a stream are these segments
abbrev pub Held : ℕ → List Segment → DiskState → Type 0
Held stream segments s = HeldBelow stream (2 ^ 64) segments s

-- ---- one segment and its index

-- this holds of each image of the two files of a number
abbrev pub EachPair : ℕ → ℕ → (List Chunk → Type 0) → DiskState → Type 0
EachPair stream n P s = (F : Finder) (a b : Image) → s.images (segment_file stream n) a → s.images (index_file stream n) b → P (pair_log F n (bytes_of a, bytes_of b))

-- the files but those of this number stay
abbrev pub BesidesPair : ℕ → ℕ → DiskState → DiskState → Type 0
BesidesPair stream n old new = Besides (segment_file stream n) (index_file stream n) old new

-- a chunk may be written behind these
pub record CanWrite (stream n : ℕ) (cs : List Chunk) (chunk : Chunk) (place index_place : ℕ) (s : DiskState) : Type 0 where
  pub stands : Stands stream (record { number = n; chunks = cs }) s
  pub is : IsChunk chunk
  pub first : chunk.first ≡ end_from n cs
  pub at : place ≡ length (segment_of cs)
  pub index_at : index_place ≡ length (index_of cs)

-- all but so many chunks may be cut away
pub record CanCut (stream n : ℕ) (cs : List Chunk) (left : ℕ) (size index_size : ℕ) (s : DiskState) : Type 0 where
  pub stands : Stands stream (record { number = n; chunks = cs }) s
  pub within : left ≤ length cs
  pub ends : size ≡ length (segment_of (take left cs))
  pub index_ends : index_size ≡ length (index_of (take left cs))

-- the index is gone, or the two are from before
abbrev pub GoneOrBefore : ℕ → ℕ → DiskState → DiskState → Type 0
GoneOrBefore stream n old new =
    (a b : Image) → new.images (segment_file stream n) a → new.images (index_file stream n) b → (b ≡ None) ⊎ (old.images (segment_file stream n) a × old.images (index_file stream n) b)

-- a segment and its index as a crash may leave them: behind the chunks a rest without a log, in the index of at most one record
pub record FoundTorn (stream n : ℕ) (cs : List Chunk) (size index_size : ℕ) (s : DiskState) : Type 0 where
  pub rest : List ℕ
  pub index_rest : List ℕ
  pub segment : Settled (segment_file stream n) (segment_of cs ++ rest) s
  pub index : Settled (index_file stream n) (index_of cs ++ index_rest) s
  pub chain : Chain 8 n cs
  pub short : length index_rest ≤ 29
  pub stops : NoMatch size (end_from n cs) rest index_rest
  pub ends : size ≡ length (segment_of cs)
  pub index_ends : index_size ≡ length (index_of cs)

-- a file that is no segment and no index of a stream
abbrev pub IsApart : ℕ → FileId → Type 0
IsApart stream f = (n : ℕ) → (f ≢ segment_file stream n) × (f ≢ index_file stream n)

-- the files that are no segment and no index of a stream stay
pub record OutsideLog (stream : ℕ) (old new : DiskState) : Type 0 where
  pub seen : (f : FileId) → IsApart stream f → new.seen f ≡ old.seen f
  pub images : (f : FileId) → IsApart stream f → (c : Image) → new.images f c → old.images f c

-- the last segment has chunks
abbrev pub Filled : List Segment → Type 0
Filled [] = Unit {0}
Filled (x ∷ older) = 0 < length x.chunks

-- a segment may begin behind these
pub record CanBegin (stream n : ℕ) (segments : List Segment) (s : DiskState) : Type 0 where
  pub held : Held stream segments s
  pub follows : n ≡ end_of (all_chunks segments)
  pub filled : Filled segments
