-- What a chunk says by name, in the form of a snapshot entry.
use Rattle.std.specs.Prelude.{◌≡◌, ℕ, max, List, [], map, length, Option, Some, None, IsSomeAnd, All}
use Rattle.std.specs.List.{reduce}
use Rattle.chunk_format.specs.declared.chunk.ChunkKind.{ChunkKind}
use Rattle.chunk_format.specs.declared.chunk.ChunkKind.TheVariants.{User, Delta, Snapshot}
use Rattle.chunk_format.specs.declared.chunk.Chunk.{Chunk}
use Rattle.chunk_format.specs.declared.tracking.SnapshotParts.{SnapshotParts}
use Rattle.chunk_format.specs.Tags.{Tag, SpellsTags, DeltaEntry, DeltaSequence, DeltaOffset, SpellsDelta, SnapshotEntry, SnapshotSequence, SnapshotOffset}
use Rattle.chunk_format.specs.Chunks.{IsOneSimple}
use Rattle.chunk_format.specs.Parts.{snapshot_of}

-- tags of one name, of which this is the greatest id
abbrev pub AreOf : List ℕ → ℕ → List Tag → Type 0
AreOf name id tags = All (λ (tag : Tag). tag.name ≡ name) tags × (reduce max (map (λ (tag : Tag). tag.id) tags) ≡ Some id)

-- what the trailer or the entry of a chunk of a kind says: the greatest id that it has for a publisher, an offset that a consumer
-- stored, or nothing
abbrev pub SaysItem : Chunk → SnapshotEntry → Type 0
SaysItem c (SnapshotSequence name first id) = (c.kind ≡ User) × (first ≡ c.first) × ((tags : List Tag) × SpellsTags (length c.entries) c.trailer tags × AreOf name id tags)
SaysItem c (SnapshotOffset name offset) = (c.kind ≡ Delta) × ((body : List ℕ) × IsOneSimple c.entries body × SpellsDelta body (DeltaOffset name offset))

abbrev pub SaysNothing : ChunkKind → Chunk → Type 0
SaysNothing User c = c.trailer ≡ []
SaysNothing Delta c = (body : List ℕ) × (name : List ℕ) × (id : ℕ) × IsOneSimple c.entries body × SpellsDelta body (DeltaSequence name id)
SaysNothing Snapshot c = Unit {0}

abbrev pub Says : Chunk → Option SnapshotParts → Type 0
Says c None = SaysNothing c.kind c
Says c (Some parts) = SaysItem c (snapshot_of parts)

-- what a delta entry says: an id in a delta chunk is not tracked
abbrev pub SaysOf : DeltaEntry → Option SnapshotParts → Type 0
SaysOf (DeltaSequence name id) said = said ≡ None
SaysOf (DeltaOffset name offset) said = IsSomeAnd said (λ parts. snapshot_of parts ≡ SnapshotOffset name offset)
