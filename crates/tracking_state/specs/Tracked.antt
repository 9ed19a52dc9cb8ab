-- What is tracked by name, and what is tracked of a log.
use Rattle.std.specs.Prelude.{◌≡◌, ℕ, List, ◌++◌, map, length, unwrap_or, flat_map, All}
use Rattle.chunk_format.specs.declared.chunk.Chunk.{Chunk}
use Rattle.chunk_format.specs.Tags.{SnapshotEntry, SnapshotSequence, SnapshotOffset, snapshot_bytes, IsSnapshot}
use Rattle.chunk_format.specs.ByName.{first_seen, tag_names, Greatest, first_with, stored_names, LastStored}
use Rattle.tracking_state.specs.declared.note.Latest.{Latest}

-- publishers with their greatest ids, and consumers with their last offsets, each in the order in which the names came
pub record Tracked : Type 0 where
  pub sequences : List (List ℕ × Latest)
  pub offsets : List (List ℕ × ℕ)

-- the greatest id of a name in a log, and the first offset of the first chunk that has it
abbrev pub latest_of : List Chunk → List ℕ → Latest
latest_of log name =
    let greatest = unwrap_or (Greatest name log) 0 in
    record { id = greatest; first = unwrap_or (first_with name greatest log) 0 }

-- the last offset that a log has for a name
abbrev pub last_of : List Chunk → List ℕ → ℕ
last_of log name = unwrap_or (LastStored name log) 0

-- what is tracked of a log
abbrev pub tracked_of : List Chunk → Tracked
tracked_of log = record {
  sequences = map (λ name. (name, latest_of log name)) (first_seen (tag_names log));
  offsets = map (λ name. (name, last_of log name)) (first_seen (stored_names log));
}

abbrev pub sequence_entry : List ℕ × Latest → SnapshotEntry
sequence_entry pair = SnapshotSequence pair.0 pair.1.first pair.1.id

abbrev pub offset_entry : List ℕ × ℕ → SnapshotEntry
offset_entry pair = SnapshotOffset pair.0 pair.1

-- what a snapshot lists of it, and its bytes
abbrev pub items_of : Tracked → List SnapshotEntry
items_of t = map sequence_entry t.sequences ++ map offset_entry t.offsets

abbrev pub body_of : Tracked → List ℕ
body_of t = flat_map snapshot_bytes (items_of t)

-- so many bytes, of entries that have a spelling
abbrev pub IsTracked : ℕ → Tracked → Type 0
IsTracked len t = (len ≡ length (body_of t)) × All IsSnapshot (items_of t)
