-- The entries of a chunk as they are shown.
use Rattle.std.proofs.Common.{◌≡◌, ℕ, zero, suc, ◌+◌, List, [], ◌∷◌, ◌++◌, length, take, map, Option, Some, None, refl, sym, ap, subst, ◌∙◌, add-zero, arith}
use Rattle.std.specs.Prelude.{slice_get, IsSomeAnd}
use Rattle.std.specs.List.{flat_map}
use Rattle.std.specs.Option.{option_map}
use Rattle.std.proofs.lemmas.Option.{same_Some, slice_get-map}
use Rattle.std.proofs.lemmas.List.Sums.{sum_by-cons}
use Rattle.chunk_format.specs.declared.entry.Entry.{Entry}
use Rattle.chunk_format.specs.declared.chunk.ChunkKind.{ChunkKind}
use Rattle.chunk_format.specs.declared.chunk.ChunkKind.TheVariants.{User, Delta, Snapshot}
use Rattle.chunk_format.specs.declared.chunk.Chunk.{Chunk}
use Rattle.chunk_format.specs.Chunks.{entry_bytes, entry_records, entries_bytes, records_of}
use Rattle.chunk_format.specs.LogRows.{LogRow, after_tag, rows_from, rows_by_kind, chunk_rows}
use Rattle.chunk_view.specs.Shown.{EntryShown, shown, shown_from, shown_entries, shown_row, entry_offset}

-- the spellings follow each other
pub spellings_joined : (first : ℕ) (entries : List Entry) → flat_map (λ (s : EntryShown). s.spelling) (shown_from first entries) ≡ entries_bytes entries
spellings_joined first [] = refl
spellings_joined first (entry ∷ entries) = ap (λ (l : List ℕ). entry_bytes entry ++ l) (spellings_joined (first + entry_records entry) entries)

pub length-shown_from : (first : ℕ) (entries : List Entry) → length (shown_from first entries) ≡ length entries
length-shown_from first [] = refl
length-shown_from first (entry ∷ entries) = omega (arith, length-shown_from (first + entry_records entry) entries)

-- the rows of a log show the entries
rows_shown : (first : ℕ) (entries : List Entry) (trailer : List ℕ) → map shown_row (rows_from first entries trailer) ≡ shown_from first entries
rows_shown first [] trailer = refl
rows_shown first (entry ∷ entries) trailer = ap (λ (l : List EntryShown). shown first entry ∷ l) (rows_shown (first + entry_records entry) entries (after_tag trailer))

rows_of_kind : (kind : ChunkKind) (c : Chunk) → kind ≡ User → map shown_row (rows_by_kind kind c) ≡ shown_entries c
rows_of_kind User c user = rows_shown c.first c.entries c.trailer
rows_of_kind Delta c user = absurd cc
rows_of_kind Snapshot c user = absurd cc

pub chunk_rows_shown : (c : Chunk) → c.kind ≡ User → map shown_row (chunk_rows c) ≡ shown_entries c
chunk_rows_shown c user = rows_of_kind c.kind c user

-- the k-th entry takes its offsets behind those of the entries before it
shown_at : (first : ℕ) (entries : List Entry) (k : ℕ) (s : EntryShown) → slice_get (shown_from first entries) k ≡ Some s
    → IsSomeAnd (slice_get entries k) (λ (entry : Entry). s ≡ shown (first + records_of (take k entries)) entry)
shown_at first [] k s there = absurd cc
shown_at first (entry ∷ entries) zero s there = sym (same_Some _ _ there) ∙ ap (λ (n : ℕ). shown n entry) (sym (add-zero first))
shown_at first (entry ∷ entries) (suc k) s there =
    let sum : (first + entry_records entry) + records_of (take k entries) ≡ first + records_of (entry ∷ take k entries) = omega (arith, sum_by-cons entry_records entry (take k entries)) in
    subst (λ (n : ℕ). IsSomeAnd (slice_get entries k) (λ (x : Entry). s ≡ shown n x)) sum (shown_at (first + entry_records entry) entries k s there)

pub entry_shown : (c : Chunk) (k : ℕ) (s : EntryShown) → slice_get (shown_entries c) k ≡ Some s → IsSomeAnd (slice_get c.entries k) (λ (entry : Entry). s ≡ shown (entry_offset c k) entry)
entry_shown c k s there = shown_at c.first c.entries k s there

row_there : (found : Option LogRow) (s : EntryShown) → option_map shown_row found ≡ Some s → IsSomeAnd found (λ (row : LogRow). s ≡ shown_row row)
row_there None s there = absurd cc
row_there (Some row) s there = sym (same_Some _ _ there)

pub entry_row : (c : Chunk) (k : ℕ) (s : EntryShown) → c.kind ≡ User → slice_get (shown_entries c) k ≡ Some s → IsSomeAnd (slice_get (chunk_rows c) k) (λ (row : LogRow). s ≡ shown_row row)
entry_row c k s user there =
    row_there (slice_get (chunk_rows c) k) s (sym (slice_get-map shown_row (chunk_rows c) k) ∙ ap (λ (l : List EntryShown). slice_get l k) (chunk_rows_shown c user) ∙ there)
