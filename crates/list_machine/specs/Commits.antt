-- Commit: what chunk may come next in a stream's list.
use Rattle.std.specs.Prelude.{◌≡◌, ◌≤◌, List, [], ◌∷◌, ◌++◌, Option, Some, None}
use Rattle.std.specs.List.{AllByRecursion}
use Rattle.chunk_format.specs.declared.entry.Entry.{Entry}
use Rattle.chunk_format.specs.declared.chunk.Chunk.{Chunk}
use Rattle.chunk_format.specs.Chunks.{IsChunk}
use Rattle.chunk_format.specs.Tags.{DeltaEntry, DeltaSequence, DeltaOffset}
use Rattle.chunk_format.specs.LogRows.{Tag, LogRow, chunk_rows, Rows}
use Rattle.chunk_format.specs.Logs.{end_of, last_epoch, bare_of, chunk_deltas}
use Rattle.command_data.specs.declared.item.Tagged.{Tagged}
use Rattle.list_machine.specs.Items.{items_by, IsIn, AnyByRecursion, AreReached, IsAbove, AtMostAsOften}
use Rattle.list_machine.specs.Streams.{Declaration, StoredOffset, live, Stream, items_of, sent_unnamed}

-- The declaration has the tag's name and sent this item, and each item that it sent earlier is at most some tag's of the
-- name before the row: nothing is passed over.
pub record SentInOrder (tag : Tag) (entry : Entry) (before : List LogRow) (declaration : Declaration) : Type 0 where
  pub name : declaration.name ≡ Some tag.name
  pub earlier : List Tagged
  pub later : List Tagged
  pub items : items_of declaration ≡ earlier ++ record { id = tag.id; entry = entry } ∷ later
  pub passed : AreReached (items_by tag.name before) earlier

-- The tag's id is above all of its name before it, and some declaration, standing or not, sent the item.
abbrev pub MayFollow : List Declaration → List LogRow → Entry → Option Tag → Type 0
MayFollow declarations before entry None = Unit {0}
MayFollow declarations before entry (Some tag) = IsAbove (items_by tag.name before) tag.id × AnyByRecursion (SentInOrder tag entry before) declarations

-- each row may follow the rows before it
abbrev pub AllFollow : List Declaration → List LogRow → List LogRow → Type 0
AllFollow declarations before [] = Unit {0}
AllFollow declarations before (row ∷ rows) = MayFollow declarations before row.entry row.tag × AllFollow declarations (before ++ row ∷ []) rows

-- a consumer sent the offset that a delta chunk stores
abbrev pub WasSent : List StoredOffset → DeltaEntry → Type 0
WasSent stored (DeltaSequence name id) = ⊥
WasSent stored (DeltaOffset name offset) = IsIn (record { name = name; offset = offset }) stored

-- The chunk begins at the list's end, in the last chunk's epoch or a later one, and nothing in it comes from nowhere: rows
-- with tags follow in order, an entry stands without a tag at most as often as publishers without a name sent it, and
-- stored offsets were sent.
pub record CommitStep (old : Stream) (chunk : Chunk) (new : Stream) : Type 0 where
  pub is_live : old.life ≡ live
  pub is_chunk : IsChunk chunk
  pub at_end : chunk.first ≡ end_of old.chunks
  pub epoch : last_epoch old.chunks ≤ chunk.epoch
  pub rows : AllFollow old.declarations (Rows old.chunks) (chunk_rows chunk)
  pub bare : AtMostAsOften (bare_of (old.chunks ++ chunk ∷ [])) (sent_unnamed old.declarations)
  pub stored : AllByRecursion (WasSent old.stored) (chunk_deltas chunk)
  pub is : new ≡ record old { chunks = old.chunks ++ chunk ∷ []; seen = old.chunks ++ chunk ∷ [] }
