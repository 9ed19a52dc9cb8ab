-- What is tracked after a snapshot entry was noted.
use Rattle.std.specs.Prelude.{ℕ, ◌+◌, List, Option, Some, None, is_some, length, nat_lt, if◌then◌else◌}
use Rattle.std.specs.Map.{lookup}
use Rattle.indexmap.specs.IndexMap.{insert_entry}
use Rattle.chunk_format.specs.Tags.{SnapshotEntry, SnapshotSequence, SnapshotOffset}
use Rattle.chunk_format.specs.ByName.{same_name}
use Rattle.tracking_state.specs.declared.note.Latest.{Latest}
use Rattle.tracking_state.specs.Tracked.{Tracked}

-- a value in the place of the name's, or behind all where the name is new
abbrev pub with_value : {V : Type 0} → List ℕ → V → List (List ℕ × V) → List (List ℕ × V)
with_value name value pairs = insert_entry same_name pairs name value

abbrev pub value_of : {V : Type 0} → List ℕ → List (List ℕ × V) → Option V
value_of name pairs = lookup (same_name name) pairs

-- an id that isn't above the one that is there changes nothing
abbrev pub with_id : Option Latest → List ℕ → Latest → List (List ℕ × Latest) → List (List ℕ × Latest)
with_id None name latest pairs = with_value name latest pairs
with_id (Some before) name latest pairs = if nat_lt before.id latest.id then with_value name latest pairs else pairs

abbrev pub noted : Tracked → SnapshotEntry → Tracked
noted t (SnapshotSequence name first id) = record { sequences = with_id (value_of name t.sequences) name (record { id = id; first = first }) t.sequences; offsets = t.offsets }
noted t (SnapshotOffset name offset) = record { sequences = t.sequences; offsets = with_value name offset t.offsets }

-- by how many bytes a snapshot gets longer with a name, where it is new
abbrev pub longer_by : {V : Type 0} → Option V → ℕ → List ℕ → ℕ
longer_by there head name = if is_some there then 0 else head + length name
