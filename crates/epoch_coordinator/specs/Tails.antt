-- Tails and runs of logs.
use Rattle.std.specs.Prelude.{Bool, false, ◌&&◌, ◌||◌, ◌==◌, if◌then◌else◌, nat_lt, nat_le, List, [], ◌∷◌}
use Rattle.chunk_format.specs.declared.chunk.Chunk.{Chunk}
use Rattle.chunk_format.specs.Chunks.{end_of_chunk}
use Rattle.chunk_format.specs.Logs.{last_epoch, end_of}
use Rattle.epoch_coordinator.specs.declared.tail.Tail.{Tail}
use Rattle.epoch_coordinator.specs.declared.tail.Run.{Run}

-- the epoch of the last chunk and the end of a log; (0, 0) where there is none
abbrev pub tail_of : List Chunk → Tail
tail_of log = record { epoch = last_epoch log; end = end_of log }

-- tails are ordered by epoch, then by end
abbrev pub is_behind : Tail → Tail → Bool
is_behind a b = nat_lt a.epoch b.epoch || ((a.epoch == b.epoch) && nat_lt a.end b.end)

abbrev pub same_tail : Tail → Tail → Bool
same_tail a b = (a.epoch == b.epoch) && (a.end == b.end)

-- a chunk before runs; the run of its own epoch, which comes next where the log goes on in it, ends behind it
abbrev pub before_runs : Run → List Run → List Run
before_runs run [] = run ∷ []
before_runs run (next ∷ more) = if run.epoch == next.epoch then next ∷ more else run ∷ next ∷ more

-- each epoch of a log with the end of its last chunk
abbrev pub runs_of : List Chunk → List Run
runs_of [] = []
runs_of (c ∷ log) = before_runs (record { epoch = c.epoch; end = end_of_chunk c }) (runs_of log)

-- some run has this epoch and an end of at least this one
abbrev pub has_run : List Run → Tail → Bool
has_run [] tail = false
has_run (run ∷ more) tail = ((run.epoch == tail.epoch) && nat_le tail.end run.end) || has_run more tail

-- runs contain a tail where they have its epoch with an end of at least its own; all contain that of no chunks
abbrev pub contains : List Run → Tail → Bool
contains runs tail = ((tail.epoch == 0) && (tail.end == 0)) || has_run runs tail
