-- What a list of chunks says by name: the ids of publishers, the offsets that consumers stored, and a snapshot of both.
use Rattle.std.specs.Prelude.{ℕ, ◌+◌, ◌≤◌, max, Bool, not, ◌==◌, List, [], ◌∷◌, ◌++◌, map, take, drop, slice_index, Option, Some, None, option_map, unwrap_or, flat_map, filter, find, if◌then◌else◌}
use Rattle.std.specs.Int.{w64, from_be_bytes}
use Rattle.std.specs.List.{list_any, reduce, last_or}
use Rattle.std.specs.List.Sorted.{IsStrictlyIncreasing}
use Rattle.std.specs.Cmp.Lexicographic.{pointwise}
use Rattle.chunk_format.specs.declared.entry.Entry.{Entry}
use Rattle.chunk_format.specs.declared.entry.Entry.TheVariants.{Simple}
use Rattle.chunk_format.specs.declared.chunk.ChunkKind.{ChunkKind}
use Rattle.chunk_format.specs.declared.chunk.ChunkKind.TheVariants.{User, Delta, Snapshot}
use Rattle.chunk_format.specs.declared.chunk.Chunk.{Chunk}
use Rattle.chunk_format.specs.Tags.{Tag, DeltaEntry, DeltaSequence, DeltaOffset, SnapshotEntry, SnapshotSequence, SnapshotOffset, snapshot_bytes}
use Rattle.chunk_format.specs.LogRows.{LogRow, Rows}

abbrev pub same_name : List ℕ → List ℕ → Bool
same_name a b = pointwise (λ x y. x == y) a b

-- each name once, where it stands first
abbrev pub first_seen : List (List ℕ) → List (List ℕ)
first_seen [] = []
first_seen (name ∷ more) = name ∷ filter (λ other. not (same_name name other)) (first_seen more)

-- ---- the ids of publishers

-- the id of a tag of this name
abbrev pub id_by : List ℕ → Option Tag → List ℕ
id_by name None = []
id_by name (Some tag) = if same_name tag.name name then tag.id ∷ [] else []

-- the ids of a name, in the order of the rows
abbrev pub ids_of : List ℕ → List Chunk → List ℕ
ids_of name chunks = flat_map (λ (row : LogRow). id_by name row.tag) (Rows chunks)

-- the greatest id of a name
abbrev pub Greatest : List ℕ → List Chunk → Option ℕ
Greatest name chunks = reduce max (ids_of name chunks)

-- the greater of two, where there are any
abbrev pub greater : Option ℕ → Option ℕ → Option ℕ
greater None other = other
greater (Some id) None = Some id
greater (Some id) (Some other) = Some (max id other)

-- an id is at most the greatest; none is where there is no greatest
abbrev pub AtMost : ℕ → Option ℕ → Type 0
AtMost id None = ⊥
AtMost id (Some greatest) = id ≤ greatest

-- for each name its ids rise along the rows
abbrev pub RisesIn : List Chunk → Type 0
RisesIn chunks = (name : List ℕ) → IsStrictlyIncreasing (ids_of name chunks)

abbrev pub tag_name : Option Tag → List (List ℕ)
tag_name None = []
tag_name (Some tag) = tag.name ∷ []

-- the names of the tags, in the order of the rows
abbrev pub tag_names : List Chunk → List (List ℕ)
tag_names chunks = flat_map (λ (row : LogRow). tag_name row.tag) (Rows chunks)

-- ---- the offsets that consumers stored

-- the delta entry of a body, read by its places
abbrev pub delta_in : List ℕ → DeltaEntry
delta_in body =
    let len = slice_index body 1 in
    let name = take len (drop 2 body) in
    let number = from_be_bytes w64 (take 8 (drop (2 + len) body)) in
    if slice_index body 0 == 1 then DeltaOffset name number else DeltaSequence name number

-- what the one simple entry of a delta chunk says
abbrev pub delta_by : ChunkKind → List Entry → List DeltaEntry
delta_by User entries = []
delta_by Snapshot entries = []
delta_by Delta (Simple body ∷ more) = delta_in body ∷ []
delta_by Delta _ = []

abbrev pub chunk_deltas : Chunk → List DeltaEntry
chunk_deltas c = delta_by c.kind c.entries

-- what the delta chunks say, in order
abbrev pub deltas_of : List Chunk → List DeltaEntry
deltas_of chunks = flat_map chunk_deltas chunks

-- the offset that was stored for this name
abbrev pub offset_by : List ℕ → DeltaEntry → List ℕ
offset_by name (DeltaSequence other id) = []
offset_by name (DeltaOffset other offset) = if same_name other name then offset ∷ [] else []

-- the offsets that were stored for a name, in order
abbrev pub offsets_of : List ℕ → List Chunk → List ℕ
offsets_of name chunks = flat_map (offset_by name) (deltas_of chunks)

-- the last offset that was stored for a name
abbrev pub LastStored : List ℕ → List Chunk → Option ℕ
LastStored name chunks = last_or None (offsets_of name chunks)

abbrev pub stored_name : DeltaEntry → List (List ℕ)
stored_name (DeltaSequence name id) = []
stored_name (DeltaOffset name offset) = name ∷ []

-- the names for which offsets were stored, in order
abbrev pub stored_names : List Chunk → List (List ℕ)
stored_names chunks = flat_map stored_name (deltas_of chunks)

-- ---- a snapshot of both

-- a chunk has a tag of this name and id
abbrev pub has_id : List ℕ → ℕ → Chunk → Bool
has_id name id c = list_any (λ other. other == id) (ids_of name (c ∷ []))

-- the first offset of the first chunk that has a tag of this name and id
abbrev pub first_with : List ℕ → ℕ → List Chunk → Option ℕ
first_with name id chunks = option_map (λ c. c.first) (find (has_id name id) chunks)

-- the greatest id of a name, behind the first offset of the first chunk that has it; a name of the rows has both
abbrev pub sequence_item : List Chunk → List ℕ → SnapshotEntry
sequence_item chunks name =
    let id = unwrap_or (Greatest name chunks) 0 in
    SnapshotSequence name (unwrap_or (first_with name id chunks) 0) id

-- the last offset that was stored for a name, which has one
abbrev pub offset_item : List Chunk → List ℕ → SnapshotEntry
offset_item chunks name = SnapshotOffset name (unwrap_or (LastStored name chunks) 0)

-- the greatest ids, in the order in which their names first stand in the rows
abbrev pub sequence_items : List Chunk → List SnapshotEntry
sequence_items chunks = map (sequence_item chunks) (first_seen (tag_names chunks))

-- the last offsets, in the order in which their names first stand in delta chunks
abbrev pub offset_items : List Chunk → List SnapshotEntry
offset_items chunks = map (offset_item chunks) (first_seen (stored_names chunks))

-- what a snapshot of chunks lists: first the greatest ids, then the last offsets
abbrev pub snapshot_items : List Chunk → List SnapshotEntry
snapshot_items chunks = sequence_items chunks ++ offset_items chunks

-- its bytes
abbrev pub snapshot_body : List Chunk → List ℕ
snapshot_body chunks = flat_map snapshot_bytes (snapshot_items chunks)

-- the one entry of a snapshot chunk behind these chunks
abbrev pub snapshot_entry_of : List Chunk → Entry
snapshot_entry_of chunks = Simple (snapshot_body chunks)
