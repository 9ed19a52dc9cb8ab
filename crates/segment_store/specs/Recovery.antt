-- What recovery of a log finds, and what it leaves.
use Rattle.std.specs.Prelude.{◌≡◌, ◌≢◌, ◌⊎◌, ℕ, ◌+◌, ◌*◌, ◌≤◌, ◌<◌, ◌^◌, List, [], ◌∷◌, ◌++◌, length, false, Option, Some, None, slice_get}
use Rattle.std.specs.List.{All, Contains}
use Rattle.disk_calls.specs.declared.file_id.FileId.{FileId}
use Rattle.disk_calls.specs.declared.file_id.FileName.{FileName}
use Rattle.disk_calls.specs.declared.file_id.FileName.TheVariants as name
use Rattle.disk_calls.specs.Disk.{DiskState, Image, Looks, Only, bytes_of}
use Rattle.chunk_format.specs.declared.chunk.Chunk.{Chunk}
use Rattle.chunk_format.specs.Logs.{end_from, end_of}
use Rattle.segment_pairs.specs.declared.look.Headless.{Headless}
use Rattle.segment_pairs.specs.Log.{Finder, Pair, begins, segment_header, index_header, pair_log, read_below, segment_of, index_of}
use Rattle.segment_pairs.specs.Held.{segment_file, index_file, Segment, all_chunks, Picks, files_of, Missing, MissingFrom, Stands, HeldBelow, GoneOrBefore, seen_log}
use Rattle.segment_store.specs.declared.rows.ChunkAt.{ChunkAt}
use Rattle.segment_store.specs.Rows.{LogStands, rows_at, rows_of}

-- a number whose segment counts: 0, or one with more than a header in its index
abbrev pub Counts : ℕ → Pair → Type 0
Counts n p = (n ≡ 0) ⊎ (8 < length p.1)

-- the log of the files below a number
abbrev pub log_below : Finder → ℕ → (ℕ → Pair) → List Chunk
log_below F n files = (read_below F n files).chunks

-- a segment and its index are these chunks and nothing else
abbrev pub AreChunks : List Chunk → Pair → Type 0
AreChunks cs p = (p.0 ≡ segment_of cs) × (p.1 ≡ index_of cs)

-- the segment of a number begins where the log below it ends, and is chunks and nothing else
pub record IsSound (F : Finder) (files : ℕ → Pair) (n : ℕ) : Type 0 where
  pub begins_at : n ≡ end_of (log_below F n files)
  pub chunks : AreChunks (pair_log F n (files n)) (files n)

-- a file of more than 8 bytes that does not begin so
abbrev pub IsOther : List ℕ → List ℕ → Type 0
IsOther header bytes = (8 < length bytes) × (begins header bytes ≡ false)

-- a segment does not begin where the log below it ends
pub record IsMisplaced (F : Finder) (files : ℕ → Pair) (n at : ℕ) : Type 0 where
  pub apart : n ≢ end_of (log_below F n files)
  pub record_is : at ≡ 0

-- one that is not the last is more or less than its chunks
pub record IsBroken (F : Finder) (files : ℕ → Pair) (n at : ℕ) : Type 0 where
  pub begins_at : n ≡ end_of (log_below F n files)
  pub later : ℕ
  pub above : (n < later) × (later < 2 ^ 64) × Counts later (files later)
  pub chunks : AreChunks (pair_log F n (files n)) (files n) → ⊥
  pub record_is : at ≡ length (pair_log F n (files n))

-- more than one record stands behind the chunks of a last one, or segment 0 or its index has another header
abbrev pub IsTooMuch : ℕ → Pair → List Chunk → Type 0
IsTooMuch n p cs = (8 + 29 * length cs + 29 < length p.1) ⊎ ((n ≡ 0) × (IsOther segment_header p.0 ⊎ IsOther index_header p.1))

pub record IsSpoilt (F : Finder) (files : ℕ → Pair) (n at : ℕ) : Type 0 where
  pub begins_at : n ≡ end_of (log_below F n files)
  pub last : (m : ℕ) → n < m → m < 2 ^ 64 → Counts m (files m) → ⊥
  pub more : IsTooMuch n (files n) (pair_log F n (files n))
  pub record_is : at ≡ length (pair_log F n (files n))

-- No crash leaves such files: this is the first segment by rising number that is wrong, and its first record that does not match.
pub record IsDamaged (F : Finder) (files : ℕ → Pair) (n at : ℕ) : Type 0 where
  pub under : n < 2 ^ 64
  pub counts : Counts n (files n)
  pub below : (m : ℕ) → m < n → Counts m (files m) → IsSound F files m
  pub wrong : IsMisplaced F files n at ⊎ (IsBroken F files n at ⊎ IsSpoilt F files n at)

-- the same of what a read gives
abbrev pub SeenDamaged : Finder → ℕ → DiskState → ℕ → ℕ → Type 0
SeenDamaged F stream s n at = IsDamaged F (files_of stream s.seen) n at

-- where no file of a number is seen, no index of it comes back
abbrev pub NoneReturns : ℕ → DiskState → Type 0
NoneReturns stream s = (n : ℕ) → n < 2 ^ 64 → s.seen (segment_file stream n) ≡ None → s.seen (index_file stream n) ≡ None → Only None (s.images (index_file stream n))

-- a log may be recovered: no crash leaves files of it that are damaged
pub record CanRecover (stream : ℕ) (s : DiskState) : Type 0 where
  pub returns : NoneReturns stream s
  pub undamaged : (F : Finder) (pick : FileId → Image) → Picks s pick → (n at : ℕ) → IsDamaged F (files_of stream pick) n at → ⊥

-- each image has the log that was seen before, which are these chunks, in segments that stand
pub record Recovers (stream : ℕ) (rows : List ChunkAt) (chunks : List Chunk) (old new : DiskState) : Type 0 where
  pub segments : List Segment
  pub stands : LogStands stream rows segments new
  pub are : chunks ≡ all_chunks segments
  pub was : (F : Finder) → seen_log F stream old ≡ chunks

-- ---- the numbers

-- the number of a segment or an index
abbrev pub number_of : FileName → Option ℕ
number_of (name.Segment n) = Some n
number_of (name.Index n) = Some n
number_of name.Promise = None
number_of name.Epochs = None
number_of name.CatalogWords = None
number_of name.CatalogBytes = None
number_of name.PromiseTwo = None
number_of name.EpochsTwo = None
number_of name.CatalogWordsTwo = None

-- numbers of 64 bits that rise, from one on
abbrev pub Rising : ℕ → List ℕ → Type 0
Rising low [] = Unit {0}
Rising low (n ∷ numbers) = (low ≤ n) × (n < 2 ^ 64) × Rising (n + 1) numbers

-- the numbers above 0 of segments and indexes are among these, which are all above 0 and of 64 bits
pub record HasNumbers (names : List FileId) (numbers : List ℕ) : Type 0 where
  pub above : All (λ n. (0 < n) × (n < 2 ^ 64)) numbers
  pub each : (i n : ℕ) (f : FileId) → slice_get names i ≡ Some f → number_of f.file ≡ Some n → 0 < n → Contains numbers n

-- a number above 0 is added, where a file has one
abbrev pub AddsNumber : FileName → List ℕ → List ℕ → Type 0
AddsNumber file old new =
    (((n : ℕ) → number_of file ≡ Some n → 0 < n → ⊥) × (new ≡ old)) ⊎ ((n : ℕ) × (number_of file ≡ Some n) × (0 < n) × (n < 2 ^ 64) × (new ≡ old ++ n ∷ []))

-- and these rise
pub record AreNumbers (names : List FileId) (numbers : List ℕ) : Type 0 where
  pub rising : Rising 1 numbers
  pub each : (i n : ℕ) (f : FileId) → slice_get names i ≡ Some f → number_of f.file ≡ Some n → 0 < n → Contains numbers n

-- a number above 0 is one of these, or has no files
abbrev pub Covers : ℕ → List ℕ → DiskState → Type 0
Covers stream numbers s = (n : ℕ) → 0 < n → n < 2 ^ 64 → Contains numbers n ⊎ Missing stream n s

-- a number has more than a header in its index
abbrev pub HasRecords : ℕ → DiskState → ℕ → Type 0
HasRecords stream s n = 8 < length (bytes_of (s.seen (index_file stream n)))

-- the numbers from one on whose segments count are these, rising, of 64 bits, and no others have files
pub record ListedAt (stream low n : ℕ) (s : DiskState) (Rest : Type 0) : Type 0 where
  pub from : low ≤ n
  pub under : n < 2 ^ 64
  pub counts : HasRecords stream s n
  pub between : MissingFrom stream low n s
  pub above : Rest

abbrev pub Listed : ℕ → ℕ → List ℕ → DiskState → Type 0
Listed stream low [] s = MissingFrom stream low (2 ^ 64) s
Listed stream low (n ∷ rest) s = ListedAt stream low n s (Listed stream (n + 1) rest s)

-- a number has records and is kept, or it has none and is gone
abbrev pub Sifts : ℕ → ℕ → List ℕ → List ℕ → DiskState → DiskState → Type 0
Sifts stream n kept more old new =
    (HasRecords stream new n × Looks old new × (more ≡ kept ++ n ∷ [])) ⊎ (Missing stream n new × (HasRecords stream old n → ⊥) × GoneOrBefore stream n old new × (more ≡ kept))

-- a read gives the same of a number's files, or it has no records before and after
abbrev pub SameOrNone : ℕ → DiskState → DiskState → ℕ → Type 0
SameOrNone stream old new n =
    (files_of stream new.seen n ≡ files_of stream old.seen n) ⊎ ((0 < n) × (length (files_of stream old.seen n).1 ≤ 8) × (length (files_of stream new.seen n).1 ≤ 8))

-- the segments without records are gone
pub record Clears (stream : ℕ) (old new : DiskState) (numbers : List ℕ) : Type 0 where
  pub listed : Listed stream 1 numbers new
  pub same : (n : ℕ) → SameOrNone stream old new n

-- ---- the walk

-- the segment of a number stands, and its chunks were added
pub record Adds (stream number : ℕ) (rows more_rows : List ChunkAt) (chunks more_chunks : List Chunk) (s : DiskState) (end : ℕ) : Type 0 where
  pub cs : List Chunk
  pub stands : Stands stream (record { number = number; chunks = cs }) s
  pub rows_are : more_rows ≡ rows ++ rows_at number 0 8 cs
  pub chunks_are : more_chunks ≡ chunks ++ cs
  pub ends : end ≡ end_from number cs

-- the segments below a number stand and were added, and it begins where their log ends
pub record Reached (stream number : ℕ) (rows : List ChunkAt) (chunks : List Chunk) (s : DiskState) : Type 0 where
  pub older : List Segment
  pub below : HeldBelow stream number older s
  pub follows : number ≡ end_of (all_chunks older)
  pub counts : Counts number (files_of stream s.seen number)
  pub rows_are : rows ≡ rows_of older
  pub chunks_are : chunks ≡ all_chunks older

-- the last number behind such segments
pub record ReachedLast (stream number : ℕ) (rows : List ChunkAt) (chunks : List Chunk) (s : DiskState) : Type 0 where
  pub reached : Reached stream number rows chunks s
  pub above : MissingFrom stream (number + 1) (2 ^ 64) s

-- files are not their chunks and nothing else; so many are whole
abbrev pub IsUneven : ℕ → Pair → ℕ → Type 0
IsUneven n p at = (F : Finder) → (AreChunks (pair_log F n p) p → ⊥) × (at ≡ length (pair_log F n p))

-- more stands behind their chunks than a crash leaves; so many are whole
abbrev pub Exceeds : ℕ → Pair → ℕ → Type 0
Exceeds n p at = (F : Finder) → IsTooMuch n p (pair_log F n p) × (at ≡ length (pair_log F n p))

-- the segment of a number is without chunks: it is gone, or 0 begins anew
pub record Restarts (stream number : ℕ) (s : DiskState) : Type 0 where
  pub gone : 0 < number → Missing stream number s
  pub anew : number ≡ 0 → Stands stream (record { number = 0; chunks = [] }) s

-- no more stands behind their chunks
abbrev pub IsEnough : ℕ → Pair → Type 0
IsEnough n p = (F : Finder) → IsTooMuch n p (pair_log F n p) → ⊥

-- each image of the files of a number has these chunks, or is one from before
abbrev pub LogOrBefore : ℕ → ℕ → List Chunk → DiskState → DiskState → Type 0
LogOrBefore stream n cs old new =
    (a b : Image) → new.images (segment_file stream n) a → new.images (index_file stream n) b → ((F : Finder) → pair_log F n (bytes_of a, bytes_of b) ≡ cs) ⊎ (old.images (segment_file stream n) a × old.images (index_file stream n) b)

-- more stands in these files, of which one has not its whole header, than a crash leaves
abbrev pub IsSpoiltHead : ℕ → Headless → Type 0
IsSpoiltHead n h = (37 < h.index_size) ⊎ ((n ≡ 0) × (((8 < h.size) × (h.segment_whole ≡ false)) ⊎ ((8 < h.index_size) × (h.index_whole ≡ false))))

-- the last segment had no chunks and is gone, or it stands and its chunks were added
abbrev pub Ends : ℕ → ℕ → List Chunk → List ChunkAt → List ChunkAt → List Chunk → List Chunk → DiskState → Type 0
Ends stream number cs rows more_rows chunks more_chunks s =
    ((0 < number) × (cs ≡ []) × Missing stream number s × (more_rows ≡ rows) × (more_chunks ≡ chunks))
    ⊎ (((number ≡ 0) ⊎ (0 < length cs)) × Stands stream (record { number = number; chunks = cs }) s × (more_rows ≡ rows ++ rows_at number 0 8 cs) × (more_chunks ≡ chunks ++ cs))
