-- A member's chunks, and what is kept beside them.
use Rattle.std.specs.Prelude.{◌≡◌, ℕ, ℤ, ◌+◌, ◌≤◌, Bool, ◌&&◌, ◌==◌, if◌then◌else◌, nat_le, List, [], ◌∷◌, ◌++◌, length, take}
use Rattle.chunk_format.specs.declared.entry.Entry.{Entry}
use Rattle.chunk_format.specs.declared.chunk.Chunk.{Chunk}
use Rattle.chunk_format.specs.declared.chunk.ChunkKind.TheVariants.{Snapshot}
use Rattle.chunk_format.specs.Chunks.{chunk_bytes, end_of_chunk}
use Rattle.chunk_format.specs.Logs.{end_of, last_epoch, IsLog, Truthful, snapshot_entry_of}
use Rattle.tracking_state.specs.Tracked.{Tracked, tracked_of}
use Rattle.epoch_coordinator.specs.declared.tail.Run.{Run}
use Rattle.epoch_coordinator.specs.declared.tail.Tail.{Tail}
use Rattle.epoch_coordinator.specs.Tails.{runs_of}
use Rattle.epoch_coordinator.specs.Offers.{counted_by, since_snapshot}

-- the chunks of a log, and those that wait behind it, in order
pub record LogState : Type 0 where
  pub log : List Chunk
  pub ahead : List Chunk

-- both, one after the other
abbrev pub whole : LogState → List Chunk
whole l = l.log ++ l.ahead

-- a log, and nothing that waits
abbrev pub only : List Chunk → LogState
only log = record { log = log; ahead = [] }

-- a chunk more waits
abbrev pub with_chunk : Chunk → LogState → LogState
with_chunk c l = record { log = l.log; ahead = l.ahead ++ c ∷ [] }

-- the first chunk that waits is written
abbrev pub written_by : List Chunk → LogState → LogState
written_by [] l = l
written_by (c ∷ more) l = record { log = l.log ++ c ∷ []; ahead = more }

abbrev pub written : LogState → LogState
written l = written_by l.ahead l

-- only so many of the chunks still wait
abbrev pub withdrawn : ℕ → LogState → LogState
withdrawn n l = record { log = l.log; ahead = take n l.ahead }

-- a chunk goes on from a list: it begins where that ends, in an epoch that doesn't fall, and a snapshot says what the list says
pub record GoesBehind (chunks : List Chunk) (c : Chunk) : Type 0 where
  pub begins : c.first ≡ end_of chunks
  pub not_before : last_epoch chunks ≤ c.epoch
  pub truthful : c.kind ≡ Snapshot → c.entries ≡ snapshot_entry_of chunks ∷ []

-- a snapshot chunk with this one entry
abbrev pub snapshot_chunk : ℕ → ℤ → ℕ → Entry → Chunk
snapshot_chunk epoch stamp first entry = record { kind = Snapshot; stamp = stamp; epoch = epoch; first = first; entries = entry ∷ []; trailer = [] }

-- ---- what is counted

-- how many bytes chunks have
abbrev pub bytes_of : List Chunk → ℕ
bytes_of [] = 0
bytes_of (c ∷ chunks) = length (chunk_bytes c) + bytes_of chunks

-- how many chunks aren't snapshots
abbrev pub plain_count : List Chunk → ℕ
plain_count [] = 0
plain_count (c ∷ chunks) = counted_by c.kind 0 + plain_count chunks

-- how many chunks at the front of a list end at an offset or before it
abbrev pub ended : ℕ → List Chunk → ℕ
ended end [] = 0
ended end (c ∷ chunks) = if nat_le (end_of_chunk c) end then ended end chunks + 1 else 0

-- a run has a tail's epoch, and reaches its end
abbrev pub reaches : Tail → Run → Bool
reaches tail run = (run.epoch == tail.epoch) && nat_le tail.end run.end

-- ---- what is kept

-- a run is added behind others, in the place of the last where that has its epoch
abbrev pub with_run : List Run → Run → List Run
with_run [] run = run ∷ []
with_run (last ∷ []) run = if last.epoch == run.epoch then run ∷ [] else last ∷ run ∷ []
with_run (first ∷ next ∷ more) run = first ∷ with_run (next ∷ more) run

-- so much is tracked of the front of a list
pub record IsKnown (chunks : List Chunk) (count : ℕ) (tracking : Tracked) : Type 0 where
  pub within : count ≤ length chunks
  pub tracks : tracking ≡ tracked_of (take count chunks)

-- numbers that were counted
pub record AreCounted (chunks ahead : List Chunk) (bytes since waiting : ℕ) : Type 0 where
  pub bytes_are : bytes ≡ bytes_of chunks
  pub since_is : since ≡ since_snapshot chunks
  pub waiting_is : waiting ≡ plain_count ahead

-- a list that is a truthful log, of which a front is written, with the runs of that front
pub record IsKept (chunks : List Chunk) (written : ℕ) (runs : List Run) : Type 0 where
  pub is_log : IsLog chunks
  pub truthful : Truthful chunks
  pub within : written ≤ length chunks
  pub runs_are : runs ≡ runs_of (take written chunks)
