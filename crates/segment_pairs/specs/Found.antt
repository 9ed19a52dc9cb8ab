-- What reading a segment and its index finds.
use Rattle.std.specs.Prelude.{◌≡◌, ◌⊎◌, ℕ, List, [], ◌++◌, length, Bool, false, ◌&&◌, Option, Some, None, drop}
use Rattle.disk_calls.specs.declared.file_id.FileId.{FileId}
use Rattle.disk_calls.specs.Disk.{DiskState, Settled}
use Rattle.chunk_format.specs.declared.chunk.Chunk.{Chunk}
use Rattle.chunk_format.specs.declared.stored.ReadStored.{ReadStored}
use Rattle.chunk_format.specs.Logs.{end_from}
use Rattle.segment_pairs.specs.declared.look.Seen.{Seen}
use Rattle.segment_pairs.specs.declared.look.Seen.TheVariants as look_seen
use Rattle.segment_pairs.specs.Log.{size_of, record_of, begins, segment_header, index_header, Matches, NoMatch, Chain, segment_of, index_of}
use Rattle.segment_pairs.specs.Held.{segment_file, index_file}

-- an index goes on with the record of a chunk, which begins where the log so far ends
abbrev pub Recorded : ℕ → ℕ → List ℕ → Chunk → Type 0
Recorded place end idx c = (c.first ≡ end) × (idx ≡ record_of place c ++ drop 29 idx)

-- what is told of the next index record
abbrev pub Tells : ℕ → ℕ → List ℕ → List ℕ → Option ReadStored → Type 0
Tells place end seg idx None = NoMatch place end seg idx
Tells place end seg idx (Some read) = Matches place end seg idx read.stored × (read.used ≡ size_of read.stored)

-- these chunks were read so far
pub record Walks (n : ℕ) (seg idx : List ℕ) (place index_place end : ℕ) (chunks : List Chunk) (rest index_rest : List ℕ) : Type 0 where
  pub segment : seg ≡ segment_of chunks ++ rest
  pub index : idx ≡ index_of chunks ++ index_rest
  pub chain : Chain 8 n chunks
  pub ends : place ≡ length (segment_of chunks)
  pub index_ends : index_place ≡ length (index_of chunks)
  pub end_is : end ≡ end_from n chunks

-- up to the first record that does not match
pub record Walked (n : ℕ) (seg idx : List ℕ) (place index_place end : ℕ) (chunks : List Chunk) : Type 0 where
  pub rest : List ℕ
  pub index_rest : List ℕ
  pub walks : Walks n seg idx place index_place end chunks rest index_rest
  pub stops : NoMatch place end rest index_rest

-- a file that is these bytes, all of it on the disk, or that is missing
abbrev pub Sure : FileId → List ℕ → DiskState → Type 0
Sure id bytes s = ((s.seen id ≡ None) × (bytes ≡ [])) ⊎ Settled id bytes s

-- a segment and its index, of which one has not its whole header
pub record Lacks (seg idx : List ℕ) (segment_whole index_whole : Bool) (size index_size : ℕ) : Type 0 where
  pub segment : segment_whole ≡ begins segment_header seg
  pub index : index_whole ≡ begins index_header idx
  pub either : (segment_whole && index_whole) ≡ false
  pub size_is : size ≡ length seg
  pub index_size_is : index_size ≡ length idx

-- a segment and its index with their headers
pub record Reads (n : ℕ) (seg idx : List ℕ) (place index_place end : ℕ) (chunks : List Chunk) (size index_size : ℕ) : Type 0 where
  pub walked : Walked n seg idx place index_place end chunks
  pub size_is : size ≡ length seg
  pub index_size_is : index_size ≡ length idx

-- what a look at a segment and an index tells
abbrev pub Shows : ℕ → List ℕ → List ℕ → Seen → Type 0
Shows n seg idx look_seen.Failed = ⊥
Shows n seg idx (look_seen.Headless h) = Lacks seg idx h.segment_whole h.index_whole h.size h.index_size
Shows n seg idx (look_seen.Chunks w) = Reads n seg idx w.place w.index_place w.end w.chunks w.size w.index_size

-- the same of files, which are then on the disk
pub record SureOf (stream n : ℕ) (s : DiskState) (P : List ℕ → List ℕ → Type 0) : Type 0 where
  pub seg : List ℕ
  pub idx : List ℕ
  pub segment : Sure (segment_file stream n) seg s
  pub index : Sure (index_file stream n) idx s
  pub shows : P seg idx

abbrev pub ShowsAt : ℕ → ℕ → DiskState → Seen → Type 0
ShowsAt stream n s look_seen.Failed = Unit {0}
ShowsAt stream n s (look_seen.Headless h) = SureOf stream n s (λ seg idx. Lacks seg idx h.segment_whole h.index_whole h.size h.index_size)
ShowsAt stream n s (look_seen.Chunks w) = SureOf stream n s (λ seg idx. Reads n seg idx w.place w.index_place w.end w.chunks w.size w.index_size)
