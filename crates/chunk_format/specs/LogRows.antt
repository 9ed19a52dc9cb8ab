-- The entries of the user chunks of a log, with their offsets and tags.
use Rattle.std.specs.Prelude.{ℕ, ◌+◌, List, [], ◌∷◌, length, take, drop, slice_index, Option, Some, None, ◌==◌, if◌then◌else◌}
use Rattle.std.specs.Int.{w64, from_be_bytes}
use Rattle.std.specs.List.{flat_map}
use Rattle.chunk_format.specs.declared.entry.Entry.{Entry}
use Rattle.chunk_format.specs.declared.chunk.ChunkKind.{ChunkKind}
use Rattle.chunk_format.specs.declared.chunk.ChunkKind.TheVariants.{User, Delta, Snapshot}
use Rattle.chunk_format.specs.declared.chunk.Chunk.{Chunk}
pub use Rattle.chunk_format.specs.Tags.{Tag}
use Rattle.chunk_format.specs.Chunks.{entry_records}

-- an entry, the first offset that it takes, and its tag if it has one
pub record LogRow : Type 0 where
  pub offset : ℕ
  pub entry : Entry
  pub tag : Option Tag

-- the tag at the front of a trailer: a type, the length of the name, the name, the id; there is none in an empty trailer
abbrev pub first_tag : List ℕ → Option Tag
first_tag trailer =
    let name_len = slice_index trailer 1 in
    if length trailer == 0 then None else
    Some (record { name = take name_len (drop 2 trailer); id = from_be_bytes w64 (take 8 (drop (2 + name_len) trailer)) })

-- the trailer after its first tag
abbrev pub after_tag : List ℕ → List ℕ
after_tag trailer = drop (10 + slice_index trailer 1) trailer

-- entries from an offset on, with the tags of a trailer one after the other
abbrev pub rows_from : ℕ → List Entry → List ℕ → List LogRow
rows_from offset [] trailer = []
rows_from offset (entry ∷ more) trailer =
    record { offset = offset; entry = entry; tag = first_tag trailer } ∷ rows_from (offset + entry_records entry) more (after_tag trailer)

abbrev pub rows_by_kind : ChunkKind → Chunk → List LogRow
rows_by_kind User c = rows_from c.first c.entries c.trailer
rows_by_kind Delta c = []
rows_by_kind Snapshot c = []

-- the rows of one chunk
abbrev pub chunk_rows : Chunk → List LogRow
chunk_rows c = rows_by_kind c.kind c

-- the rows of a log
abbrev pub Rows : List Chunk → List LogRow
Rows chunks = flat_map chunk_rows chunks
