-- Disks that belong to no stream, on streams of three members that are written out.
use Rattle.std.specs.Prelude.{◌≡◌, ℕ, List}
use Rattle.disk_calls.specs.declared.file_id.FileId.{FileId}
use Rattle.disk_calls.specs.Disk.{DiskState, Image}
use Rattle.chunk_format.specs.declared.chunk.Chunk.{Chunk}
use Rattle.gated_words.specs.Files.{Files, Leaves, PairsOf}
use Rattle.segment_pairs.specs.Log.{Finder, LogOf}
use Rattle.segment_pairs.specs.Held.{Picks, files_of}
use Rattle.replication_laws.specs.Cluster.{ClusterState}
use Rattle.replication_laws.specs.Literals.{acted, three, caught_up, wrote_alone}
use Rattle.segment_store.specs.Words.{word_of}

-- a crash may leave this log of a stream
abbrev pub MayLeaveLog : ℕ → List Chunk → DiskState → Type 0
MayLeaveLog stream log s = (F : Finder) × (pick : FileId → Image) × Picks s pick × (LogOf F (files_of stream pick) ≡ log)

-- and this word of a stream
abbrev pub MayLeaveWord : FileId → ℕ → ℕ → DiskState → Type 0
MayLeaveWord id stream word s = (files : Files) × Leaves id s files × (word_of stream (PairsOf files) ≡ word)

-- member 1 follows 2 and took its chunk, which is committed: the list is the first chunk and that
abbrev pub caught : ClusterState
caught = acted caught_up three

-- member 1 leads, and its Write of a chunk behind the first is done
abbrev pub alone : ClusterState
alone = acted wrote_alone three
