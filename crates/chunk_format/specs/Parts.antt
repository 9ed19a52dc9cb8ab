-- Entries and tracking entries whose bytes are slices of what they stand in.
use Rattle.chunk_format.specs.declared.entry.Entry.{Entry}
use Rattle.chunk_format.specs.declared.entry.Entry.TheVariants as whole
use Rattle.chunk_format.specs.declared.split.EntryParts.{EntryParts}
use Rattle.chunk_format.specs.declared.split.EntryParts.TheVariants.{Simple, Batch}
use Rattle.chunk_format.specs.declared.tracking.DeltaParts.{DeltaParts}
use Rattle.chunk_format.specs.declared.tracking.DeltaParts.TheVariants as delta
use Rattle.chunk_format.specs.declared.tracking.SnapshotParts.{SnapshotParts}
use Rattle.chunk_format.specs.declared.tracking.SnapshotParts.TheVariants as snapshot
use Rattle.chunk_format.specs.declared.tracking.TagParts.{TagParts}
use Rattle.chunk_format.specs.Tags.{DeltaEntry, DeltaSequence, DeltaOffset, SnapshotEntry, SnapshotSequence, SnapshotOffset, Tag}

abbrev pub entry_of : EntryParts → Entry
entry_of (Simple body) = whole.Simple body.now
entry_of (Batch compression spare records uncompressed body) = whole.Batch compression spare records uncompressed body.now

abbrev pub delta_of : DeltaParts → DeltaEntry
delta_of (delta.Sequence name id) = DeltaSequence name.now id
delta_of (delta.Offset name offset) = DeltaOffset name.now offset

abbrev pub snapshot_of : SnapshotParts → SnapshotEntry
snapshot_of (snapshot.Sequence name first id) = SnapshotSequence name.now first id
snapshot_of (snapshot.Offset name offset) = SnapshotOffset name.now offset

abbrev pub tag_of : TagParts → Tag
tag_of tag = record { name = tag.name.now; id = tag.id }
