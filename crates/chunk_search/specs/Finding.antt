-- Which chunks have a spelling, as tests, and the chunk with which bytes begin, as a function.
use Rattle.std.specs.Prelude.{ℕ, zero, suc, ℤ, ◌+◌, ◌^◌, ◌==◌, Bool, false, ◌&&◌, ◌||◌, nat_lt, nat_le, List, [], ◌∷◌, length, take, drop, slice_index, flat_map, Option, Some, None, Result, Ok, Err, if◌then◌else◌}
use Rattle.std.specs.Int.{w64, from_be_bytes, int_wrap}
use Rattle.std.specs.Ordering.{int_eq}
use Rattle.std.specs.List.{list_all}
use Rattle.frame_wire.specs.Reading.{Spot}
use Rattle.chunk_format.specs.declared.entry.Entry.{Entry}
use Rattle.chunk_format.specs.declared.entry.Entry.TheVariants.{Simple, Batch}
use Rattle.chunk_format.specs.declared.chunk.ChunkKind.{ChunkKind}
use Rattle.chunk_format.specs.declared.chunk.ChunkKind.TheVariants.{User, Delta, Snapshot}
use Rattle.chunk_format.specs.declared.chunk.Chunk.{Chunk}
use Rattle.chunk_format.specs.declared.chunk.Header.{Header}
use Rattle.chunk_format.specs.declared.field.HeaderFault.{HeaderFault}
use Rattle.chunk_format.specs.Tags.{Tag, tag_bytes, DeltaEntry, DeltaSequence, DeltaOffset, delta_bytes, SnapshotEntry, SnapshotSequence, SnapshotOffset, snapshot_bytes}
use Rattle.chunk_format.specs.Chunks.{entry_records, entries_bytes, chunk_bytes, end_of_chunk}
use Rattle.chunk_format.specs.ChunkFields.{header_at}
use Rattle.chunk_format.specs.Faults.{whole_len}
use Rattle.chunk_format.specs.ReadBack.{chunk_at}
use Rattle.chunk_format.specs.LogRows.{first_tag, after_tag}
use Rattle.chunk_format.specs.ByName.{same_name as same_bytes, delta_in}

-- ---- entries

abbrev pub is_entry : Entry → Bool
is_entry (Simple body) = nat_lt (length body) (2 ^ 31)
is_entry (Batch compression spare records uncompressed body) =
    nat_lt compression 8 && (nat_lt spare 16 && (nat_lt records (2 ^ 16) && (nat_lt uncompressed (2 ^ 32) && nat_lt (length body) (2 ^ 32))))

abbrev pub has_records : Entry → Bool
has_records entry = nat_le 1 (entry_records entry)

-- ---- names and what is said by name

abbrev pub is_name : List ℕ → Bool
is_name name = nat_le 1 (length name) && nat_lt (length name) (2 ^ 8)

abbrev pub is_number : ℕ → Bool
is_number n = nat_lt n (2 ^ 64)

abbrev pub is_tag_of : List ℕ → Tag → Bool
is_tag_of name tag = same_bytes tag.name name && (is_name tag.name && is_number tag.id)

abbrev pub or_no_tag : Option Tag → Tag
or_no_tag None = record { name = []; id = 0 }
or_no_tag (Some tag) = tag

-- so many tags, one after the other
abbrev pub tags_in : ℕ → List ℕ → List Tag
tags_in zero trailer = []
tags_in (suc n) trailer = or_no_tag (first_tag trailer) ∷ tags_in n (after_tag trailer)

abbrev pub name_of_first : List Tag → List ℕ
name_of_first [] = []
name_of_first (tag ∷ more) = tag.name

-- so many tags of one name and no further byte
abbrev pub are_tags : ℕ → List ℕ → Bool
are_tags n trailer = list_all (is_tag_of (name_of_first (tags_in n trailer))) (tags_in n trailer) && same_bytes trailer (flat_map tag_bytes (tags_in n trailer))

abbrev pub is_delta : DeltaEntry → Bool
is_delta (DeltaSequence name id) = is_name name && is_number id
is_delta (DeltaOffset name offset) = is_name name && is_number offset

abbrev pub spells_delta : List ℕ → Bool
spells_delta body = is_delta (delta_in body) && same_bytes body (delta_bytes (delta_in body))

-- the number of eight bytes at a place
abbrev pub u64_at : ℕ → List ℕ → ℕ
u64_at place body = from_be_bytes w64 (take 8 (drop place body))

-- the snapshot entry at the front, read by its places
abbrev pub snapshot_in : List ℕ → SnapshotEntry
snapshot_in body =
    let len = slice_index body 1 in
    let name = take len (drop 2 body) in
    if slice_index body 0 == 1 then SnapshotOffset name (u64_at (2 + len) body) else SnapshotSequence name (u64_at (2 + len) body) (u64_at (10 + len) body)

abbrev pub after_snapshot : List ℕ → List ℕ
after_snapshot body = if slice_index body 0 == 1 then drop (10 + slice_index body 1) body else drop (18 + slice_index body 1) body

-- at most so many snapshot entries, one after the other
abbrev pub snapshots_in : ℕ → List ℕ → List SnapshotEntry
snapshots_in zero body = []
snapshots_in (suc n) body = if length body == 0 then [] else snapshot_in body ∷ snapshots_in n (after_snapshot body)

abbrev pub is_snapshot : SnapshotEntry → Bool
is_snapshot (SnapshotSequence name first id) = is_name name && (is_number first && is_number id)
is_snapshot (SnapshotOffset name offset) = is_name name && is_number offset

abbrev pub spells_snapshot : List ℕ → Bool
spells_snapshot body = list_all is_snapshot (snapshots_in (length body) body) && same_bytes body (flat_map snapshot_bytes (snapshots_in (length body) body))

-- ---- chunks

-- one simple entry, whose body passes a test
abbrev pub one_simple : (List ℕ → Bool) → List Entry → Bool
one_simple test [] = false
one_simple test (Simple body ∷ []) = test body
one_simple test (Simple body ∷ next ∷ more) = false
one_simple test (Batch compression spare records uncompressed body ∷ more) = false

abbrev pub is_empty : List ℕ → Bool
is_empty bytes = length bytes == 0

abbrev pub holds_by_kind : ChunkKind → List Entry → List ℕ → Bool
holds_by_kind User entries trailer = is_empty trailer || are_tags (length entries) trailer
holds_by_kind Delta entries trailer = is_empty trailer && one_simple spells_delta entries
holds_by_kind Snapshot entries trailer = is_empty trailer && one_simple spells_snapshot entries

-- a number of 64 bits with its sign
abbrev pub is_stamp : ℤ → Bool
is_stamp stamp = int_eq (int_wrap w64 stamp) stamp

abbrev pub is_chunk : Chunk → Bool
is_chunk c =
    is_stamp c.stamp && (is_number c.epoch && (nat_le 1 (length c.entries) && (nat_lt (length c.entries) (2 ^ 16) && (list_all is_entry c.entries && (list_all has_records c.entries
    && (nat_le (length (entries_bytes c.entries)) 4294967040 && (is_number (end_of_chunk c) && holds_by_kind c.kind c.entries c.trailer)))))))

-- ---- bytes

-- a chunk, where it has a spelling with which the bytes begin
unfoldable pub if_begins : List ℕ → Chunk → Option Chunk
if_begins bytes c = if is_chunk c && same_bytes (chunk_bytes c) (take (length (chunk_bytes c)) bytes) then Some c else None

abbrev pub by_header : List ℕ → Result (Header × Spot) HeaderFault → Option Chunk
by_header bytes (Err fault) = None
by_header bytes (Ok (h, behind)) = if_begins bytes (chunk_at h (take (whole_len h) bytes))

-- the chunk with which bytes begin, read by its header and places
unfoldable pub chunk_in : List ℕ → Option Chunk
chunk_in bytes = by_header bytes (header_at (record { at = 0; rest = bytes }))
