-- How a leader lays what is offered out as chunks.
use Rattle.std.specs.Prelude.{ℕ, zero, suc, ℤ, ◌+◌, ◌/◌, Bool, true, ◌==◌, if◌then◌else◌, nat_lt, List, [], ◌∷◌, ◌++◌, length, map, take, drop, flat_map, Option, Some, None}
use Rattle.chunk_format.specs.declared.entry.Entry.{Entry}
use Rattle.chunk_format.specs.declared.entry.Entry.TheVariants.{Simple}
use Rattle.chunk_format.specs.declared.chunk.ChunkKind.{ChunkKind}
use Rattle.chunk_format.specs.declared.chunk.ChunkKind.TheVariants.{User, Delta, Snapshot}
use Rattle.chunk_format.specs.declared.chunk.Chunk.{Chunk}
use Rattle.chunk_format.specs.Tags.{DeltaOffset, delta_bytes, tag_bytes}
use Rattle.chunk_format.specs.Logs.{end_of, Greatest, opening_chunk}

-- an id that a publisher gave, and its entry
pub record Item : Type 0 where
  pub id : ℕ
  pub entry : Entry

-- ---- which items are taken

abbrev pub is_new : Option ℕ → ℕ → Bool
is_new None id = true
is_new (Some greatest) id = nat_lt greatest id

-- the items whose ids are above the greatest one before them
abbrev pub rising_from : Option ℕ → List Item → List Item
rising_from greatest [] = []
rising_from greatest (item ∷ more) = if is_new greatest item.id then item ∷ rising_from (Some item.id) more else rising_from greatest more

-- Without a name all items are taken; with one those whose ids are above the greatest of that name in the leader's sequence, and above those of the items before.
abbrev pub accepted : List ℕ → List Chunk → List Item → List Item
accepted [] sequence items = items
accepted (x ∷ name) sequence items = rising_from (Greatest (x ∷ name) sequence) items

-- ---- chunks

-- a tag for each item, where the publisher has a name
abbrev pub trailer_by : List ℕ → List Item → List ℕ
trailer_by [] items = []
trailer_by (x ∷ name) items = flat_map (λ (item : Item). tag_bytes (record { name = x ∷ name; id = item.id })) items

abbrev pub user_chunk : ℕ → ℤ → List ℕ → ℕ → List Item → Chunk
user_chunk epoch stamp name first items = record {
  kind = User;
  stamp = stamp;
  epoch = epoch;
  first = first;
  entries = map (λ (item : Item). item.entry) items;
  trailer = trailer_by name items;
}

-- a consumer's stored offset
abbrev pub offset_chunk : ℕ → ℤ → List ℕ → ℕ → ℕ → Chunk
offset_chunk epoch stamp name offset first = record {
  kind = Delta;
  stamp = stamp;
  epoch = epoch;
  first = first;
  entries = Simple (delta_bytes (DeltaOffset name offset)) ∷ [];
  trailer = [];
}

abbrev pub counted_by : ChunkKind → ℕ → ℕ
counted_by User n = n + 1
counted_by Delta n = n + 1
counted_by Snapshot n = 0

abbrev pub since_from : ℕ → List Chunk → ℕ
since_from n [] = n
since_from n (c ∷ chunks) = since_from (counted_by c.kind n) chunks

-- how many chunks stand behind the last snapshot
abbrev pub since_snapshot : List Chunk → ℕ
since_snapshot chunks = since_from 0 chunks

-- how many chunks stand behind a snapshot at most, before the next one
abbrev pub snapshot_every : ℕ
snapshot_every = 1024

-- a chunk that a leader takes behind its sequence, and the snapshot that follows it where it is the 1,024th since the last one
abbrev pub with_snapshot : List Chunk → Chunk → List Chunk
with_snapshot sequence c =
    let after = sequence ++ c ∷ [] in
    if since_snapshot after == snapshot_every then c ∷ opening_chunk c.epoch c.stamp after ∷ [] else c ∷ []

-- the most entries of a chunk
abbrev pub most_entries : ℕ
most_entries = 4096

-- so many chunks of items, each of 4,096 but the last, which has what is left, with the snapshots that follow them
abbrev pub laid : ℕ → ℕ → ℤ → List ℕ → List Chunk → List Item → List Chunk
laid zero epoch stamp name sequence items = []
laid (suc n) epoch stamp name sequence items =
    let chunks = with_snapshot sequence (user_chunk epoch stamp name (end_of sequence) (take most_entries items)) in
    chunks ++ laid n epoch stamp name (sequence ++ chunks) (drop most_entries items)

-- how many chunks so many items take
abbrev pub chunk_count : ℕ → ℕ
chunk_count items = (items + 4095) / most_entries

-- what an offer puts behind a leader's sequence
abbrev pub offered_chunks : ℕ → ℤ → List ℕ → List Chunk → List Item → List Chunk
offered_chunks epoch stamp name sequence items =
    let taken = accepted name sequence items in
    laid (chunk_count (length taken)) epoch stamp name sequence taken

-- what a stored offset puts behind a leader's sequence
abbrev pub stored_chunks : ℕ → ℤ → List ℕ → ℕ → List Chunk → List Chunk
stored_chunks epoch stamp name offset sequence = with_snapshot sequence (offset_chunk epoch stamp name offset (end_of sequence))
