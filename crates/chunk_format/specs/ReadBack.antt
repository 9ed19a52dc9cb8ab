-- The entries and the chunk that bytes spell, read by their places.
use Rattle.std.specs.Prelude.{◌≡◌, ℕ, zero, suc, ◌+◌, ◌-◌, ◌/◌, ◌%◌, ◌^◌, ◌<◌, List, [], ◌∷◌, ◌++◌, length, take, drop, slice_index, nat_lt, if◌then◌else◌}
use Rattle.std.specs.Int.{w16, w32, from_be_bytes}
use Rattle.chunk_format.specs.declared.entry.Entry.{Entry}
use Rattle.chunk_format.specs.declared.entry.Entry.TheVariants.{Simple, Batch}
use Rattle.chunk_format.specs.declared.chunk.Header.{Header}
use Rattle.chunk_format.specs.declared.chunk.Chunk.{Chunk}
use Rattle.chunk_format.specs.Chunks.{entry_bytes, IsEntry, records_of, header_of, ChunkSpells}
use Rattle.chunk_format.specs.Faults.{SpellsEntries, payload_of, trailer_of}

-- the numbers of two and of four bytes at a place
abbrev pub u16_at : ℕ → List ℕ → ℕ
u16_at place bytes = from_be_bytes w16 (take 2 (drop place bytes))

abbrev pub u32_at : ℕ → List ℕ → ℕ
u32_at place bytes = from_be_bytes w32 (take 4 (drop place bytes))

abbrev pub simple_at : List ℕ → Entry
simple_at bytes = Simple (take (u32_at 0 bytes) (drop 4 bytes))

abbrev pub batch_at : List ℕ → Entry
batch_at bytes =
    let code = slice_index bytes 0 in
    Batch ((code - 128) / 16) (code % 16) (u16_at 1 bytes) (u32_at 3 bytes) (take (u32_at 7 bytes) (drop 11 bytes))

-- the entry at the front, which is a sub-batch where its first bit is set
unfoldable pub first_entry : List ℕ → Entry
first_entry bytes = if nat_lt (slice_index bytes 0) 128 then simple_at bytes else batch_at bytes

-- the bytes behind the entry at the front
abbrev pub after_entry : List ℕ → List ℕ
after_entry bytes = drop (length (entry_bytes (first_entry bytes))) bytes

-- the entry that is read at the front stands there
abbrev pub BeginsEntry : List ℕ → Type 0
BeginsEntry bytes = IsEntry (first_entry bytes) × (bytes ≡ entry_bytes (first_entry bytes) ++ after_entry bytes)

-- so many entries, one after the other
abbrev pub entries_at : ℕ → List ℕ → List Entry
entries_at zero bytes = []
entries_at (suc n) bytes = first_entry bytes ∷ entries_at n (after_entry bytes)

-- the chunk of a header and bytes
abbrev pub chunk_at : Header → List ℕ → Chunk
chunk_at h bytes = record {
  kind = h.kind;
  stamp = h.stamp;
  epoch = h.epoch;
  first = h.first;
  entries = entries_at h.entries (payload_of h bytes);
  trailer = trailer_of h bytes;
}

-- the bytes are all bytes of a chunk that has this header
abbrev pub IsViewed : Header → List ℕ → Type 0
IsViewed h bytes = ChunkSpells (chunk_at h bytes) bytes × (h ≡ header_of (chunk_at h bytes))

-- the bytes are so many entries, whose offsets from this one on are numbers of 64 bits
pub record AreLeft (n first : ℕ) (bytes : List ℕ) : Type 0 where
  pub are : SpellsEntries n bytes (entries_at n bytes)
  pub last : first + records_of (entries_at n bytes) < 2 ^ 64
