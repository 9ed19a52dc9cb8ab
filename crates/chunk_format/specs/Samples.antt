-- A small list of chunks, and two wrong ones, to see what the words of `Logs` and `ByName` give.
use Rattle.std.specs.Prelude.{ℕ, pos, List, [], ◌∷◌}
use Rattle.chunk_format.specs.declared.entry.Entry.{Entry}
use Rattle.chunk_format.specs.declared.entry.Entry.TheVariants.{Simple}
use Rattle.chunk_format.specs.declared.chunk.ChunkKind.{ChunkKind}
use Rattle.chunk_format.specs.declared.chunk.ChunkKind.TheVariants.{User, Delta, Snapshot}
use Rattle.chunk_format.specs.declared.chunk.Chunk.{Chunk}
use Rattle.chunk_format.specs.Tags.{tag_bytes, delta_bytes, DeltaOffset, SnapshotEntry, SnapshotSequence, SnapshotOffset, snapshot_bytes}
use Rattle.std.specs.List.{flat_map}

-- the names "p" of a publisher, and "c" and "d" of consumers
abbrev pub p_name : List ℕ
p_name = 112 ∷ []

abbrev pub c_name : List ℕ
c_name = 99 ∷ []

abbrev pub d_name : List ℕ
d_name = 100 ∷ []

abbrev pub sample : ChunkKind → ℕ → List Entry → List ℕ → Chunk
sample kind first entries trailer = record { kind = kind; stamp = pos 0; epoch = 1; first = first; entries = entries; trailer = trailer }

-- an entry of p with an id, another with a lower one, and one without a tag
abbrev pub p_tagged : ℕ → ℕ → Chunk
p_tagged first id = sample User first (Simple (97 ∷ []) ∷ []) (tag_bytes (record { name = p_name; id = id }))

abbrev pub untagged : ℕ → Chunk
untagged first = sample User first (Simple (98 ∷ []) ∷ []) []

-- an offset that a consumer stored
abbrev pub stores : ℕ → List ℕ → ℕ → Chunk
stores first name offset = sample Delta first (Simple (delta_bytes (DeltaOffset name offset)) ∷ []) []

abbrev pub snapshot_at : ℕ → List SnapshotEntry → Chunk
snapshot_at first items = sample Snapshot first (Simple (flat_map snapshot_bytes items) ∷ []) []

-- p with the ids 4, 7 and 7 again, d before c, and d once more
abbrev pub said : List Chunk
said = p_tagged 0 4 ∷ p_tagged 1 7 ∷ stores 2 d_name 1 ∷ p_tagged 3 7 ∷ stores 4 c_name 0 ∷ stores 5 d_name 3 ∷ untagged 6 ∷ []

-- 7 stands first in the chunk at 1; d was stored before c
abbrev pub said_items : List SnapshotEntry
said_items = SnapshotSequence p_name 1 7 ∷ SnapshotOffset d_name 3 ∷ SnapshotOffset c_name 0 ∷ []

-- the same with c before d
abbrev pub other_items : List SnapshotEntry
other_items = SnapshotSequence p_name 1 7 ∷ SnapshotOffset c_name 0 ∷ SnapshotOffset d_name 3 ∷ []
