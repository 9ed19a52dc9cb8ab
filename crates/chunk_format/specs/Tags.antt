-- What a log tracks by name: the ids of publishers, and the offsets that consumers stored.
use Rattle.std.specs.Prelude.{◌≡◌, ℕ, ◌^◌, ◌<◌, ◌≤◌, List, ◌++◌, length}
use Rattle.std.specs.List.{flat_map, All}
use Rattle.frame_wire.specs.Fields.{u8_bytes, u64_bytes}
use Rattle.chunk_format.specs.Items.{AreItems, FirstWrong}

-- the name of a publisher, and the id that it gave an entry
pub record Tag : Type 0 where
  pub name : List ℕ
  pub id : ℕ

-- what the one entry of a delta chunk says: an id of a publisher, or an offset that a consumer stored
pub data DeltaEntry : Type 0 where
  DeltaSequence : List ℕ → ℕ → DeltaEntry
  DeltaOffset : List ℕ → ℕ → DeltaEntry

-- what a snapshot says: with an id also the first offset of the chunk in which it stands
pub data SnapshotEntry : Type 0 where
  SnapshotSequence : List ℕ → ℕ → ℕ → SnapshotEntry
  SnapshotOffset : List ℕ → ℕ → SnapshotEntry

abbrev pub IsName : List ℕ → Type 0
IsName name = (1 ≤ length name) × (length name < 2 ^ 8)

-- a type, 0 for an id and 1 for an offset, the length of the name, and the name
abbrev pub named_bytes : ℕ → List ℕ → List ℕ
named_bytes kind name = u8_bytes kind ++ (u8_bytes (length name) ++ name)

abbrev pub tag_bytes : Tag → List ℕ
tag_bytes tag = named_bytes 0 tag.name ++ u64_bytes tag.id

abbrev pub IsTag : Tag → Type 0
IsTag tag = IsName tag.name × (tag.id < 2 ^ 64)

abbrev pub delta_bytes : DeltaEntry → List ℕ
delta_bytes (DeltaSequence name id) = named_bytes 0 name ++ u64_bytes id
delta_bytes (DeltaOffset name offset) = named_bytes 1 name ++ u64_bytes offset

abbrev pub IsDelta : DeltaEntry → Type 0
IsDelta (DeltaSequence name id) = IsName name × (id < 2 ^ 64)
IsDelta (DeltaOffset name offset) = IsName name × (offset < 2 ^ 64)

abbrev pub snapshot_bytes : SnapshotEntry → List ℕ
snapshot_bytes (SnapshotSequence name first id) = named_bytes 0 name ++ (u64_bytes first ++ u64_bytes id)
snapshot_bytes (SnapshotOffset name offset) = named_bytes 1 name ++ u64_bytes offset

abbrev pub IsSnapshot : SnapshotEntry → Type 0
IsSnapshot (SnapshotSequence name first id) = IsName name × (first < 2 ^ 64) × (id < 2 ^ 64)
IsSnapshot (SnapshotOffset name offset) = IsName name × (offset < 2 ^ 64)

-- a tag of this name
abbrev pub IsTagOf : List ℕ → Tag → Type 0
IsTagOf name tag = (tag.name ≡ name) × IsTag tag

-- tags of one name, at most one for each of so many entries
abbrev pub AreTags : ℕ → List Tag → Type 0
AreTags entries tags = ((name : List ℕ) × All (IsTagOf name) tags) × (length tags ≤ entries)

-- as many as this
abbrev pub Count : {A : Type 0} → ℕ → List A → Type 0
Count n items = length items ≡ n

-- a trailer has one tag for each of so many entries, all of one name
abbrev pub SpellsTags : ℕ → List ℕ → List Tag → Type 0
SpellsTags entries trailer tags = AreItems tag_bytes (AreTags entries) (Count entries) trailer tags

abbrev pub WrongTag : ℕ → List ℕ → ℕ → Type 0
WrongTag entries trailer place = FirstWrong tag_bytes (AreTags entries) (Count entries) trailer place

-- the body of a delta chunk's entry is one delta entry
abbrev pub SpellsDelta : List ℕ → DeltaEntry → Type 0
SpellsDelta body delta = IsDelta delta × (body ≡ delta_bytes delta)

abbrev pub AreDeltas : List DeltaEntry → Type 0
AreDeltas deltas = All IsDelta deltas × (length deltas ≤ 1)

abbrev pub WrongDelta : List ℕ → ℕ → Type 0
WrongDelta body place = FirstWrong delta_bytes AreDeltas (Count 1) body place

-- the body of a snapshot chunk's entry is a list of snapshot entries
abbrev pub SpellsSnapshot : List ℕ → List SnapshotEntry → Type 0
SpellsSnapshot body snapshot = All IsSnapshot snapshot × (body ≡ flat_map snapshot_bytes snapshot)

-- any number of them is whole
abbrev pub AnyCount : List SnapshotEntry → Type 0
AnyCount snapshot = Unit {0}

abbrev pub WrongSnapshot : List ℕ → ℕ → Type 0
WrongSnapshot body place = FirstWrong snapshot_bytes (All IsSnapshot) AnyCount body place
