-- How entries and chunks are spelled, and which of them have a spelling.
use Rattle.std.specs.Prelude.{◌≡◌, ℕ, ◌+◌, ◌*◌, ◌^◌, ◌<◌, ◌≤◌, List, [], ◌∷◌, ◌++◌, length, ◌⊎◌}
use Rattle.std.specs.Int.{w64}
use Rattle.std.specs.Int.RustNames.{FitsSigned}
use Rattle.std.specs.List.{flat_map, sum_by, All}
use Rattle.frame_wire.specs.Fields.{u8_bytes, u16_bytes, u32_bytes, u64_bytes, i64_bytes}
use Rattle.chunk_format.specs.declared.entry.Entry.{Entry}
use Rattle.chunk_format.specs.declared.entry.Entry.TheVariants.{Simple, Batch}
use Rattle.chunk_format.specs.declared.chunk.ChunkKind.{ChunkKind}
use Rattle.chunk_format.specs.declared.chunk.ChunkKind.TheVariants.{User, Delta, Snapshot}
use Rattle.chunk_format.specs.declared.chunk.Header.{Header}
use Rattle.chunk_format.specs.declared.chunk.Chunk.{Chunk}
use Rattle.chunk_crc.specs.Crc.{crc_of}
use Rattle.chunk_format.specs.Tags.{Tag, SpellsTags, DeltaEntry, SpellsDelta, SnapshotEntry, SpellsSnapshot}

-- the first byte of a sub-batch: bit 1, three bits of compression, four spare bits
abbrev pub batch_code : ℕ → ℕ → ℕ
batch_code compression spare = 128 + compression * 16 + spare

-- A simple entry is its length and its bytes, a sub-batch its code, records, uncompressed size, length and bytes.
abbrev pub entry_bytes : Entry → List ℕ
entry_bytes (Simple body) = u32_bytes (length body) ++ body
entry_bytes (Batch compression spare records uncompressed body) =
    u8_bytes (batch_code compression spare) ++ (u16_bytes records ++ (u32_bytes uncompressed ++ (u32_bytes (length body) ++ body)))

-- how many offsets an entry takes
abbrev pub entry_records : Entry → ℕ
entry_records (Simple body) = 1
entry_records (Batch compression spare records uncompressed body) = records

-- which entries have a spelling: the length of a simple one has 31 bits, as bit 0 stands before it
abbrev pub IsEntry : Entry → Type 0
IsEntry (Simple body) = length body < 2 ^ 31
IsEntry (Batch compression spare records uncompressed body) =
    (compression < 8) × (spare < 16) × (records < 2 ^ 16) × (uncompressed < 2 ^ 32) × (length body < 2 ^ 32)

-- an entry of a chunk takes at least one offset
abbrev pub HasRecords : Entry → Type 0
HasRecords entry = 1 ≤ entry_records entry

-- entries one after the other, which are a chunk's payload
abbrev pub entries_bytes : List Entry → List ℕ
entries_bytes entries = flat_map entry_bytes entries

-- how many offsets entries take
abbrev pub records_of : List Entry → ℕ
records_of entries = sum_by entry_records entries

abbrev pub kind_code : ChunkKind → ℕ
kind_code User = 0
kind_code Delta = 1
kind_code Snapshot = 2

-- magic 5 in the high four bits and version 0 in the low four, then the kind
abbrev pub kind_bytes : ChunkKind → List ℕ
kind_bytes kind = u8_bytes 0x50 ++ u8_bytes (kind_code kind)

-- the first 16 bytes: magic, version and kind, the numbers of entries and of records, the stamp
abbrev pub head_bytes : Header → List ℕ
head_bytes h = kind_bytes h.kind ++ (u16_bytes h.entries ++ (u32_bytes h.records ++ i64_bytes h.stamp))

-- the last 16 bytes: the checksum of the payload, the lengths of payload and trailer, four zero bytes
abbrev pub length_bytes : Header → List ℕ
length_bytes h = u32_bytes h.crc ++ (u32_bytes h.payload_len ++ (u32_bytes h.trailer_len ++ u32_bytes 0))

-- the 48 bytes before a payload
unfoldable pub header_bytes : Header → List ℕ
header_bytes h = head_bytes h ++ (u64_bytes h.epoch ++ (u64_bytes h.first ++ length_bytes h))

-- the header of a chunk
abbrev pub header_of : Chunk → Header
header_of c = record {
  kind = c.kind;
  entries = length c.entries;
  records = records_of c.entries;
  stamp = c.stamp;
  epoch = c.epoch;
  first = c.first;
  crc = crc_of (entries_bytes c.entries);
  payload_len = length (entries_bytes c.entries);
  trailer_len = length c.trailer;
}

-- header, payload and trailer
abbrev pub chunk_bytes : Chunk → List ℕ
chunk_bytes c = header_bytes (header_of c) ++ (entries_bytes c.entries ++ c.trailer)

-- the first offset after a chunk
abbrev pub end_of_chunk : Chunk → ℕ
end_of_chunk c = c.first + records_of c.entries

-- the one entry, which is simple, has this body
abbrev pub IsOneSimple : List Entry → List ℕ → Type 0
IsOneSimple entries body = entries ≡ Simple body ∷ []

-- A user chunk has no trailer, or one with a tag for each entry. A delta and a snapshot chunk have none, and one simple entry:
-- its body is a delta entry, or a list of snapshot entries.
abbrev pub HoldsByKind : ChunkKind → List Entry → List ℕ → Type 0
HoldsByKind User entries trailer = (trailer ≡ []) ⊎ ((tags : List Tag) × SpellsTags (length entries) trailer tags)
HoldsByKind Delta entries trailer = (trailer ≡ []) × ((body : List ℕ) × (delta : DeltaEntry) × IsOneSimple entries body × SpellsDelta body delta)
HoldsByKind Snapshot entries trailer = (trailer ≡ []) × ((body : List ℕ) × (snapshot : List SnapshotEntry) × IsOneSimple entries body × SpellsSnapshot body snapshot)

-- which chunks have a spelling
pub record IsChunk (c : Chunk) : Type 0 where
  pub stamp_fits : FitsSigned w64 c.stamp
  pub epoch_fits : c.epoch < 2 ^ 64
  pub some : 1 ≤ length c.entries
  pub few : length c.entries < 2 ^ 16
  pub each : All IsEntry c.entries
  pub recorded : All HasRecords c.entries
  pub payload : length (entries_bytes c.entries) ≤ 4294967040
  pub last : end_of_chunk c < 2 ^ 64
  pub content : HoldsByKind c.kind c.entries c.trailer

-- a chunk and its bytes
pub record ChunkSpells (c : Chunk) (bytes : List ℕ) : Type 0 where
  pub is_chunk : IsChunk c
  pub spelled : bytes ≡ chunk_bytes c
