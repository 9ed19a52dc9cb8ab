-- Why bytes begin no chunk: the first check that fails, in the order of the format, and its place.
use Rattle.std.specs.Prelude.{◌≡◌, ◌≢◌, ◌⊎◌, ℕ, ◌+◌, ◌/◌, ◌%◌, ◌^◌, ◌<◌, ◌≤◌, List, [], ◌++◌, length, take, drop, slice_index}
use Rattle.std.specs.Int.{w64}
use Rattle.std.specs.Int.RustNames.{FitsSigned}
use Rattle.std.specs.List.{All}
use Rattle.frame_wire.specs.Fields.{u32_bytes}
use Rattle.chunk_format.specs.declared.entry.Entry.{Entry}
use Rattle.chunk_format.specs.declared.chunk.ChunkKind.{ChunkKind}
use Rattle.chunk_format.specs.declared.chunk.ChunkKind.TheVariants.{User, Delta, Snapshot}
use Rattle.chunk_format.specs.declared.chunk.Header.{Header}
use Rattle.chunk_format.specs.declared.chunk.Chunk.{Chunk}
use Rattle.chunk_format.specs.declared.fault.ChunkFault.{ChunkFault}
use Rattle.chunk_format.specs.declared.fault.ChunkFault.TheVariants.{Short, Magic, Version, Kind, Reserved, Count, Crc, Trailer, Tracking}
use Rattle.chunk_crc.specs.Crc.{crc_of}
use Rattle.chunk_format.specs.Items.{AreItems, FirstWrong}
use Rattle.chunk_format.specs.Tags as tags
use Rattle.chunk_format.specs.Chunks.{entry_bytes, IsEntry, HasRecords, records_of, header_bytes, header_of, IsOneSimple, ChunkSpells}

-- the numbers of a header that have a spelling
pub record IsHeader (h : Header) : Type 0 where
  pub entries : h.entries < 2 ^ 16
  pub records : h.records < 2 ^ 32
  pub stamp : FitsSigned w64 h.stamp
  pub epoch : h.epoch < 2 ^ 64
  pub first : h.first < 2 ^ 64
  pub crc : h.crc < 2 ^ 32
  pub payload_len : h.payload_len < 2 ^ 32
  pub trailer_len : h.trailer_len < 2 ^ 32

-- a header stands at the front of the bytes
abbrev pub HeaderStands : Header → List ℕ → Type 0
HeaderStands h bytes = IsHeader h × (bytes ≡ header_bytes h ++ drop 48 bytes)

-- the first two bytes are those of version 0, of one of the three kinds
abbrev pub BeginsRight : List ℕ → Type 0
BeginsRight bytes = (48 ≤ length bytes) × (slice_index bytes 0 ≡ 0x50) × (slice_index bytes 1 < 3)

-- The checks of the 48 header bytes, in order: that they are there, magic, version, kind, and the four zero bytes.
abbrev pub HeaderWrong : List ℕ → ChunkFault → Type 0
HeaderWrong bytes (Short place) = (length bytes < 48) × (place ≡ length bytes)
HeaderWrong bytes (Magic place) = (48 ≤ length bytes) × (slice_index bytes 0 / 16 ≢ 5) × (place ≡ 0)
HeaderWrong bytes (Version place) = (48 ≤ length bytes) × (slice_index bytes 0 / 16 ≡ 5) × (slice_index bytes 0 % 16 ≢ 0) × (place ≡ 0)
HeaderWrong bytes (Kind place) = (48 ≤ length bytes) × (slice_index bytes 0 ≡ 0x50) × (3 ≤ slice_index bytes 1) × (place ≡ 1)
HeaderWrong bytes (Reserved place) = BeginsRight bytes × (take 4 (drop 44 bytes) ≢ u32_bytes 0) × (place ≡ 44)
HeaderWrong bytes (Count place) = ⊥
HeaderWrong bytes (Crc place stored computed) = ⊥
HeaderWrong bytes (Trailer place) = ⊥
HeaderWrong bytes (Tracking place) = ⊥

-- what follows a header: so many bytes in all, the payload, and the trailer
abbrev pub whole_len : Header → ℕ
whole_len h = 48 + h.payload_len + h.trailer_len

abbrev pub payload_of : Header → List ℕ → List ℕ
payload_of h bytes = take h.payload_len (drop 48 bytes)

abbrev pub trailer_of : Header → List ℕ → List ℕ
trailer_of h bytes = take h.trailer_len (drop (48 + h.payload_len) bytes)

-- an entry that may stand in a chunk
abbrev pub IsChunkEntry : Entry → Type 0
IsChunkEntry entry = IsEntry entry × HasRecords entry

-- at most so many entries that may stand in a chunk
abbrev pub AreEntries : ℕ → List Entry → Type 0
AreEntries n entries = All IsChunkEntry entries × (length entries ≤ n)

-- a payload is so many entries
abbrev pub SpellsEntries : ℕ → List ℕ → List Entry → Type 0
SpellsEntries n payload entries = AreItems entry_bytes (AreEntries n) (tags.Count n) payload entries

abbrev pub WrongEntry : ℕ → List ℕ → ℕ → Type 0
WrongEntry n payload place = FirstWrong entry_bytes (AreEntries n) (tags.Count n) payload place

-- a payload of at most 4,294,967,040 bytes, and some entries
abbrev pub IsSized : Header → Type 0
IsSized h = (h.payload_len ≤ 4294967040) × (1 ≤ h.entries)

-- the payload is the entries that the header counts
pub record Counted (h : Header) (payload : List ℕ) (entries : List Entry) : Type 0 where
  pub sized : IsSized h
  pub are : SpellsEntries h.entries payload entries
  pub sum : records_of entries ≡ h.records
  pub last : h.first + h.records < 2 ^ 64

-- The checks of the counts, in order: the payload's length, the number of entries, the first wrong entry or what is left over,
-- the number of records, the last offset.
pub data CountWrong (h : Header) (payload : List ℕ) (place : ℕ) : Type 0 where
  LongPayload : 4294967040 < h.payload_len → place ≡ 36 → CountWrong h payload place
  NoEntries : h.payload_len ≤ 4294967040 → h.entries ≡ 0 → place ≡ 2 → CountWrong h payload place
  EntryWrong : IsSized h → (at : ℕ) → WrongEntry h.entries payload at → place ≡ 48 + at → CountWrong h payload place
  SumWrong : IsSized h → (entries : List Entry) → SpellsEntries h.entries payload entries → records_of entries ≢ h.records → place ≡ 4 → CountWrong h payload place
  LastWrong : IsSized h → (entries : List Entry) → SpellsEntries h.entries payload entries → records_of entries ≡ h.records → 2 ^ 64 ≤ h.first + h.records → place ≡ 24
      → CountWrong h payload place

-- a user chunk has no trailer, or one with a tag for each entry, and another has none
abbrev pub TrailerRight : ChunkKind → ℕ → List ℕ → Type 0
TrailerRight User n trailer = (trailer ≡ []) ⊎ ((all : List tags.Tag) × tags.SpellsTags n trailer all)
TrailerRight Delta n trailer = trailer ≡ []
TrailerRight Snapshot n trailer = trailer ≡ []

-- the place in the trailer
abbrev pub TrailerWrong : ChunkKind → ℕ → List ℕ → ℕ → Type 0
TrailerWrong User n trailer place = (trailer ≢ []) × tags.WrongTag n trailer place
TrailerWrong Delta n trailer place = (trailer ≢ []) × (place ≡ 0)
TrailerWrong Snapshot n trailer place = (trailer ≢ []) × (place ≡ 0)

-- the entries are not one simple one
abbrev pub NotOneSimple : List Entry → Type 0
NotOneSimple entries = (body : List ℕ) → IsOneSimple entries body → ⊥

-- the body of the one entry of a delta or snapshot chunk
abbrev pub TrackedRight : ChunkKind → List ℕ → Type 0
TrackedRight User body = Unit {0}
TrackedRight Delta body = (delta : tags.DeltaEntry) × tags.SpellsDelta body delta
TrackedRight Snapshot body = (snapshot : List tags.SnapshotEntry) × tags.SpellsSnapshot body snapshot

abbrev pub TrackedWrong : ChunkKind → List ℕ → ℕ → Type 0
TrackedWrong User body at = ⊥
TrackedWrong Delta body at = tags.WrongDelta body at
TrackedWrong Snapshot body at = tags.WrongSnapshot body at

abbrev pub TrackingRight : ChunkKind → List Entry → Type 0
TrackingRight User entries = Unit {0}
TrackingRight Delta entries = (body : List ℕ) × IsOneSimple entries body × TrackedRight Delta body
TrackingRight Snapshot entries = (body : List ℕ) × IsOneSimple entries body × TrackedRight Snapshot body

-- without one simple entry at 2, else at the wrong place of its body, which begins at 52
abbrev pub OneWrong : ChunkKind → List Entry → ℕ → Type 0
OneWrong kind entries place =
    (NotOneSimple entries × (place ≡ 2)) ⊎ ((body : List ℕ) × (at : ℕ) × IsOneSimple entries body × TrackedWrong kind body at × (place ≡ 52 + at))

abbrev pub TrackingWrong : ChunkKind → List Entry → ℕ → Type 0
TrackingWrong User entries place = ⊥
TrackingWrong Delta entries place = OneWrong Delta entries place
TrackingWrong Snapshot entries place = OneWrong Snapshot entries place

-- a payload that is counted rightly and has the checksum of its header
abbrev pub PayloadRight : Header → List ℕ → List Entry → Type 0
PayloadRight h payload entries = Counted h payload entries × (crc_of payload ≡ h.crc)

-- The checks of payload and trailer, in order: the counts, the checksum, the trailer, the tracking entries.
abbrev pub PartsWrong : Header → List ℕ → List ℕ → ChunkFault → Type 0
PartsWrong h payload trailer (Count place) = CountWrong h payload place
PartsWrong h payload trailer (Crc place stored computed) =
    ((entries : List Entry) × Counted h payload entries) × (stored ≡ h.crc) × (computed ≡ crc_of payload) × (stored ≢ computed) × (place ≡ 32)
PartsWrong h payload trailer (Trailer place) =
    (entries : List Entry) × (at : ℕ) × PayloadRight h payload entries × TrailerWrong h.kind h.entries trailer at × (place ≡ 48 + h.payload_len + at)
PartsWrong h payload trailer (Tracking place) =
    (entries : List Entry) × PayloadRight h payload entries × TrailerRight h.kind h.entries trailer × TrackingWrong h.kind entries place
PartsWrong h payload trailer (Short place) = ⊥
PartsWrong h payload trailer (Magic place) = ⊥
PartsWrong h payload trailer (Version place) = ⊥
PartsWrong h payload trailer (Kind place) = ⊥
PartsWrong h payload trailer (Reserved place) = ⊥

-- all of these checks pass
pub record PartsRight (h : Header) (payload trailer : List ℕ) (entries : List Entry) : Type 0 where
  pub payload_right : PayloadRight h payload entries
  pub trailer_right : TrailerRight h.kind h.entries trailer
  pub tracking_right : TrackingRight h.kind entries

-- what follows a header ends early, or is wrong
abbrev pub BodyWrong : Header → List ℕ → ChunkFault → Type 0
BodyWrong h bytes fault =
    ((length bytes < whole_len h) × (fault ≡ Short (length bytes))) ⊎ ((whole_len h ≤ length bytes) × PartsWrong h (payload_of h bytes) (trailer_of h bytes) fault)

-- the first check that fails
abbrev pub ChunkWrong : List ℕ → ChunkFault → Type 0
ChunkWrong bytes fault = HeaderWrong bytes fault ⊎ ((h : Header) × HeaderStands h bytes × BodyWrong h bytes fault)

-- the first bytes, so many, spell this chunk
abbrev pub BeginsWith : Chunk → ℕ → List ℕ → Type 0
BeginsWith c used bytes = (used ≤ length bytes) × ChunkSpells c (take used bytes)

-- the header of the chunk with which the bytes begin
abbrev pub HeadsChunk : Header → List ℕ → Type 0
HeadsChunk h bytes = (c : Chunk) × BeginsWith c (whole_len h) bytes × (h ≡ header_of c)
