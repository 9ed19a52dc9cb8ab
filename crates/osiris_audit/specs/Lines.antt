-- The lines that are written of chunks.
use Rattle.std.specs.Prelude.{ℕ, List, [], ◌∷◌, ◌++◌, length, codes}
use Rattle.std.specs.List.{flat_map}
use Rattle.std.specs.Fmt.{decimal, signed_decimal}
use Rattle.chunk_format.specs.declared.chunk.Chunk.{Chunk}
use Rattle.chunk_format.specs.declared.chunk.ChunkKind.{ChunkKind}
use Rattle.chunk_format.specs.declared.chunk.ChunkKind.TheVariants.{User, Delta, Snapshot}
use Rattle.chunk_format.specs.declared.chunk.Header.{Header}
use Rattle.chunk_format.specs.Chunks.{header_of}
use Rattle.chunk_view.specs.Shown.{EntryShown, shown_entries}

abbrev pub space : ℕ
space = 32

-- the end of a line
abbrev pub line_feed : ℕ
line_feed = 10

abbrev pub kind_word : ChunkKind → List ℕ
kind_word User = codes "user"
kind_word Delta = codes "delta"
kind_word Snapshot = codes "snapshot"

unfoldable pub header_front : Header → List ℕ
header_front h = codes "chunk " ++ (decimal h.first ++ (space ∷ (kind_word h.kind ++ (space ∷ (decimal h.entries ++ space ∷ [])))))

unfoldable pub header_back : Header → List ℕ
header_back h = decimal h.records ++ (space ∷ (signed_decimal h.stamp ++ (space ∷ (decimal h.epoch ++ line_feed ∷ []))))

-- `chunk FIRST KIND ENTRIES RECORDS STAMP EPOCH`
unfoldable pub header_line : Header → List ℕ
header_line h = header_front h ++ header_back h

-- `entry OFFSET RECORDS LENGTH`, with the length of the entry's body
unfoldable pub entry_line : EntryShown → List ℕ
entry_line entry = codes "entry " ++ (decimal entry.first ++ (space ∷ (decimal entry.records ++ (space ∷ (decimal (length entry.body) ++ line_feed ∷ [])))))

-- the line of a chunk and those of its entries
unfoldable pub chunk_lines : Chunk → List ℕ
chunk_lines c = header_line (header_of c) ++ flat_map entry_line (shown_entries c)

-- the lines of chunks
abbrev pub lines_of : List Chunk → List ℕ
lines_of chunks = flat_map chunk_lines chunks

-- the last line, with the number of chunks that matched
unfoldable pub ok_line : ℕ → List ℕ
ok_line count = codes "ok " ++ (decimal count ++ line_feed ∷ [])

unfoldable pub bad_line : ℕ → List ℕ
bad_line count = codes "bad " ++ (decimal count ++ line_feed ∷ [])
