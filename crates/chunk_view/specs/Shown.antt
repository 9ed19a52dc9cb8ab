-- What a view shows of a chunk's entries.
use Rattle.std.specs.Prelude.{◌≡◌, ℕ, ◌+◌, ◌≤◌, Bool, List, [], ◌∷◌, length, take, drop, nat_lt}
use Rattle.chunk_format.specs.declared.entry.Entry.{Entry}
use Rattle.chunk_format.specs.declared.entry.Entry.TheVariants.{Simple, Batch}
use Rattle.chunk_format.specs.declared.chunk.Chunk.{Chunk}
use Rattle.chunk_format.specs.Chunks.{entry_bytes, entry_records, entries_bytes, records_of}
use Rattle.chunk_format.specs.LogRows.{LogRow}
use Rattle.chunk_view.specs.declared.entry.EntryView.{EntryView}

-- an entry as it is shown: the first offset that it takes, how many it takes, its bytes, and those of its body
pub record EntryShown : Type 0 where
  pub first : ℕ
  pub records : ℕ
  pub spelling : List ℕ
  pub body : List ℕ

abbrev pub entry_body : Entry → List ℕ
entry_body (Simple body) = body
entry_body (Batch compression spare records uncompressed body) = body

-- how many bytes of an entry stand before its body
abbrev pub head_len : Entry → ℕ
head_len (Simple body) = 4
head_len (Batch compression spare records uncompressed body) = 11

-- an entry whose first offset this is
abbrev pub shown : ℕ → Entry → EntryShown
shown first entry = record { first = first; records = entry_records entry; spelling = entry_bytes entry; body = entry_body entry }

-- entries one after the other, the first of which takes this offset first
abbrev pub shown_from : ℕ → List Entry → List EntryShown
shown_from first [] = []
shown_from first (entry ∷ more) = shown first entry ∷ shown_from (first + entry_records entry) more

-- the entries of a chunk
abbrev pub shown_entries : Chunk → List EntryShown
shown_entries c = shown_from c.first c.entries

-- a row of a log
abbrev pub shown_row : LogRow → EntryShown
shown_row row = shown row.offset row.entry

-- what an entry view stands for
abbrev pub shown_by : EntryView → EntryShown
shown_by view = record { first = view.first; records = view.records; spelling = view.spelling.now; body = view.body.now }

-- where the k-th entry of a chunk begins in the chunk's bytes: behind the header and the spellings of the entries before it
abbrev pub entry_place : Chunk → ℕ → ℕ
entry_place c k = 48 + length (entries_bytes (take k c.entries))

-- the first offset that the k-th entry takes
abbrev pub entry_offset : Chunk → ℕ → ℕ
entry_offset c k = c.first + records_of (take k c.entries)

-- these bytes stand at this place of others
abbrev pub StandsAt : List ℕ → ℕ → List ℕ → Type 0
StandsAt bytes place part = (place + length part ≤ length bytes) × (take (length part) (drop place bytes) ≡ part)

-- an entry that takes an offset above this one, or this one
abbrev pub ends_above : ℕ → EntryShown → Bool
ends_above offset entry = nat_lt offset (entry.first + entry.records)
