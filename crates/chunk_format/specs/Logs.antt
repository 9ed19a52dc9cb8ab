-- What is said of a list of chunks. What it says by name stands in `ByName`, whose words are passed on here.
use Rattle.std.specs.Prelude.{◌≡◌, ℕ, ℤ, ◌≤◌, ◌⊎◌, Bool, true, false, not, ◌&&◌, nat_lt, int_lt, List, [], ◌∷◌, ◌++◌, Option, None, option_map, flat_map, filter, find, count_by, if◌then◌else◌}
use Rattle.std.specs.List.{last_or}
use Rattle.chunk_format.specs.declared.entry.Entry.{Entry}
use Rattle.chunk_format.specs.declared.chunk.ChunkKind.{ChunkKind}
use Rattle.chunk_format.specs.declared.chunk.ChunkKind.TheVariants.{User, Delta, Snapshot}
use Rattle.chunk_format.specs.declared.chunk.Chunk.{Chunk}
use Rattle.chunk_format.specs.Chunks.{end_of_chunk, IsChunk}
use Rattle.chunk_format.specs.Tags.{Tag}
use Rattle.chunk_format.specs.LogRows.{LogRow, Rows}
pub use Rattle.chunk_format.specs.ByName.{same_name, id_by, ids_of, Greatest, greater, AtMost, tag_name, tag_names, delta_in, delta_by, chunk_deltas, deltas_of, offset_by, offsets_of, LastStored, stored_name, stored_names, first_seen, has_id, first_with, sequence_item, offset_item, sequence_items, offset_items, snapshot_items, snapshot_body, snapshot_entry_of, RisesIn}

-- b begins with a
abbrev pub GoesOn : {A : Type 0} → List A → List A → Type 0
GoesOn {A} a b = (more : List A) × (b ≡ a ++ more)

-- ---- ends and epochs

-- where chunks end that begin at an offset
abbrev pub end_from : ℕ → List Chunk → ℕ
end_from at [] = at
end_from at (c ∷ cs) = end_from (end_of_chunk c) cs

-- where a list of chunks ends, which is 0 where there is none
abbrev pub end_of : List Chunk → ℕ
end_of chunks = end_from 0 chunks

-- the epoch of the last chunk, or this one where there is none
abbrev pub epoch_from : ℕ → List Chunk → ℕ
epoch_from epoch [] = epoch
epoch_from epoch (c ∷ cs) = epoch_from c.epoch cs

-- the epoch of the last chunk, which is 0 where there is none
abbrev pub last_epoch : List Chunk → ℕ
last_epoch chunks = epoch_from 0 chunks

-- a chunk that begins at this offset, in this epoch or a later one, with others behind it
pub record LinkedBy (at epoch : ℕ) (c : Chunk) (Behind : Type 0) : Type 0 where
  pub begins : c.first ≡ at
  pub not_before : epoch ≤ c.epoch
  pub is : IsChunk c
  pub behind : Behind

-- chunks one after the other, from an offset on, whose epochs don't fall
abbrev pub Linked : ℕ → ℕ → List Chunk → Type 0
Linked at epoch [] = Unit {0}
Linked at epoch (c ∷ cs) = LinkedBy at epoch c (Linked (end_of_chunk c) c.epoch cs)

-- a log: chunks one after the other from 0 on, whose epochs don't fall
abbrev pub IsLog : List Chunk → Type 0
IsLog chunks = Linked 0 0 chunks

-- some chunk of this epoch ends at this offset or later
abbrev pub HasRun : List Chunk → ℕ → ℕ → Type 0
HasRun [] epoch end = ⊥
HasRun (c ∷ cs) epoch end = ((c.epoch ≡ epoch) × (end ≤ end_of_chunk c)) ⊎ HasRun cs epoch end

-- ---- user chunks

abbrev pub is_user : ChunkKind → Bool
is_user User = true
is_user Delta = false
is_user Snapshot = false

-- a user chunk whose end is above an offset
abbrev pub is_above : ℕ → Chunk → Bool
is_above from c = is_user c.kind && nat_lt from (end_of_chunk c)

-- the user chunks whose end is above an offset
abbrev pub users_above : ℕ → List Chunk → List Chunk
users_above from chunks = filter (is_above from) chunks

-- the first of them
abbrev pub next_above : ℕ → List Chunk → Option Chunk
next_above from chunks = find (is_above from) chunks

-- the first offset of the last user chunk
abbrev pub last_user : List Chunk → Option ℕ
last_user chunks = option_map (λ c. c.first) (last_or None (filter (λ c. is_user c.kind) chunks))

-- a user chunk with a stamp of at least a moment
abbrev pub is_since : ℤ → Chunk → Bool
is_since moment c = is_user c.kind && not (int_lt c.stamp moment)

-- the first offset of the first user chunk with a stamp of at least a moment
abbrev pub first_since : ℤ → List Chunk → Option ℕ
first_since moment chunks = option_map (λ c. c.first) (find (is_since moment) chunks)

-- ---- snapshots

-- the chunk with which an epoch opens at the end of a log: a snapshot of that log
abbrev pub opening_chunk : ℕ → ℤ → List Chunk → Chunk
opening_chunk epoch stamp chunks = record {
  kind = Snapshot;
  stamp = stamp;
  epoch = epoch;
  first = end_of chunks;
  entries = snapshot_entry_of chunks ∷ [];
  trailer = [];
}

-- each snapshot chunk has the entry of the chunks before it
abbrev pub Truthful : List Chunk → Type 0
Truthful chunks = (before : List Chunk) (c : Chunk) (behind : List Chunk) → chunks ≡ before ++ c ∷ behind → c.kind ≡ Snapshot → c.entries ≡ snapshot_entry_of before ∷ []

-- ---- entries without a tag

-- the entry of a row, where it has no tag
abbrev pub bare_by : Option Tag → Entry → List Entry
bare_by None entry = entry ∷ []
bare_by _ entry = []

abbrev pub bare : LogRow → List Entry
bare row = bare_by row.tag row.entry

-- the entries of a list of chunks without a tag
abbrev pub bare_of : List Chunk → List Entry
bare_of chunks = flat_map bare (Rows chunks)

-- a row from one offset on and before another
abbrev pub is_within : ℕ → ℕ → ℕ → Bool
is_within from to at = not (nat_lt at from) && nat_lt at to

-- the entry of a row in a range of offsets, where it has no tag
abbrev pub bare_within : ℕ → ℕ → LogRow → List Entry
bare_within from to row = if is_within from to row.offset then bare row else []

-- the entries without a tag in a range of offsets
abbrev pub bare_in : ℕ → ℕ → List Chunk → List Entry
bare_in from to chunks = flat_map (bare_within from to) (Rows chunks)

-- how many pass a test
abbrev pub tally : {A : Type 0} → (A → Bool) → List A → ℕ
tally passes items = count_by passes items
