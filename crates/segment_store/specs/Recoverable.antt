-- Files of a member that recovery takes: no image of them is damaged.
use Rattle.std.specs.Prelude.{◌≡◌, ℕ, ◌<◌, ◌^◌}
use Rattle.disk_calls.specs.declared.file_id.FileId.{FileId}
use Rattle.disk_calls.specs.Disk.{DiskState, Image}
use Rattle.disk_calls.specs.Frames.{Gone}
use Rattle.chunk_format.specs.Logs.{end_of}
use Rattle.gated_words.specs.Files.{Opens}
use Rattle.gated_words.specs.Backing.{EachBoth}
use Rattle.segment_pairs.specs.Log.{Finder, Pair, pair_log}
use Rattle.segment_pairs.specs.Held.{Picks, files_of}
use Rattle.segment_pairs.specs.Left.{EachLeft}
use Rattle.segment_store.specs.Recovery.{AreChunks, Counts, log_below}
use Rattle.segment_store.specs.Stores.{promise_file}
use Rattle.segment_store.specs.Words.{epochs_file}

-- each segment that counts begins where the log below it ends, and is its chunks and nothing else, where one above it counts
pub record InLine (F : Finder) (files : ℕ → Pair) : Type 0 where
  pub begins_at : (n : ℕ) → n < 2 ^ 64 → Counts n (files n) → n ≡ end_of (log_below F n files)
  pub chunks : (n later : ℕ) → n < later → later < 2 ^ 64 → Counts n (files n) → Counts later (files later) → AreChunks (pair_log F n (files n)) (files n)

-- in each image the files of each number are such as a crash leaves, and the segments are in line
pub record LogRecoverable (stream : ℕ) (s : DiskState) : Type 0 where
  pub left : (n : ℕ) → n < 2 ^ 64 → EachLeft stream n s
  pub in_line : (F : Finder) (pick : FileId → Image) → Picks s pick → InLine F (files_of stream pick)

-- and in each image the files of promises can be opened
pub record Recoverable (stream : ℕ) (s : DiskState) : Type 0 where
  pub log : LogRecoverable stream s
  pub words : EachBoth (promise_file stream) Opens s

-- in each image the files of epochs can be opened
abbrev pub EpochsRecoverable : DiskState → Type 0
EpochsRecoverable s = EachBoth epochs_file Opens s

-- no file of a stream is there, and no crash brings one back
abbrev pub NoFiles : ℕ → DiskState → Type 0
NoFiles stream s = (f : FileId) → f.stream ≡ stream → Gone f s
