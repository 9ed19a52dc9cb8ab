-- What was sent to a stream, and that what stands in a log was sent.
use Rattle.std.specs.Prelude.{◌≡◌, ℕ, ◌≤◌, ◌⊎◌, Bool, max, List, [], ◌∷◌, ◌++◌, map, Option, Some, None}
use Rattle.std.specs.List.{AllByRecursion, reduce, flat_map}
use Rattle.chunk_format.specs.declared.entry.Entry.{Entry}
use Rattle.chunk_format.specs.declared.chunk.Chunk.{Chunk}
use Rattle.chunk_format.specs.Tags.{Tag, DeltaEntry, DeltaSequence, DeltaOffset}
use Rattle.chunk_format.specs.LogRows.{LogRow, Rows}
use Rattle.chunk_format.specs.ByName.{id_by, Greatest, AtMost, deltas_of}
use Rattle.chunk_format.specs.Logs.{bare_of, tally}
use Rattle.epoch_coordinator.specs.Offers.{Item}

-- a declaration of a publisher with a name, standing or not: all items that it sent, in order
pub record Declaration : Type 0 where
  pub name : List ℕ
  pub items : List Item

-- all that was sent: by declarations with a name, the entries of publishers without one, and the offsets of consumers
pub record History : Type 0 where
  pub declarations : List Declaration
  pub bare : List Entry
  pub offsets : List DeltaEntry

-- one of a list
abbrev pub IsIn : {A : Type 0} → A → List A → Type 0
IsIn x [] = ⊥
IsIn x (y ∷ ys) = (x ≡ y) ⊎ IsIn x ys

-- the greatest id of a name in rows
abbrev pub greatest_in : List ℕ → List LogRow → Option ℕ
greatest_in name rows = reduce max (flat_map (λ (row : LogRow). id_by name row.tag) rows)

-- A declaration of the name sent this id and entry, and each id that it sent before is reached by the rows before.
pub record IsSent (h : History) (before : List LogRow) (tag : Tag) (entry : Entry) : Type 0 where
  pub declaration : Declaration
  pub is_in : IsIn declaration h.declarations
  pub name_is : declaration.name ≡ tag.name
  pub earlier : List Item
  pub item : Item
  pub later : List Item
  pub parts : declaration.items ≡ earlier ++ item ∷ later
  pub id_is : item.id ≡ tag.id
  pub entry_is : item.entry ≡ entry
  pub reached : AllByRecursion (λ (i : Item). AtMost i.id (greatest_in tag.name before)) earlier

abbrev pub RowSent : History → List LogRow → Option Tag → Entry → Type 0
RowSent h before None entry = Unit {0}
RowSent h before (Some tag) entry = IsSent h before tag entry

-- row by row, with the rows before
abbrev pub RowsSent : History → List LogRow → List LogRow → Type 0
RowsSent h before [] = Unit {0}
RowsSent h before (row ∷ rows) = RowSent h before row.tag row.entry × RowsSent h (before ++ row ∷ []) rows

abbrev pub OffsetSent : History → DeltaEntry → Type 0
OffsetSent h (DeltaSequence name id) = Unit {0}
OffsetSent h (DeltaOffset name offset) = IsIn (DeltaOffset name offset) h.offsets

-- What stands was sent: an entry without a tag stands at most as often as it was sent without a name, each tagged row was sent after what it stands behind, and each stored offset was sent.
pub record WasSent (h : History) (log : List Chunk) : Type 0 where
  pub bare : (passes : Entry → Bool) → tally passes (bare_of log) ≤ tally passes h.bare
  pub rows : RowsSent h [] (Rows log)
  pub offsets : AllByRecursion (OffsetSent h) (deltas_of log)

-- all items of a declaration are reached in a log
abbrev pub IsReached : Declaration → List Chunk → Type 0
IsReached d log = AllByRecursion (λ (i : Item). AtMost i.id (Greatest d.name log)) d.items

-- ---- a history that grows

-- declarations go on, and entries and offsets are added
pub record Grown (h h' : History) : Type 0 where
  pub declarations : (d : Declaration) → IsIn d h.declarations → (e : Declaration) × IsIn e h'.declarations × (e.name ≡ d.name) × ((more : List Item) × (e.items ≡ d.items ++ more))
  pub bare : (passes : Entry → Bool) → tally passes h.bare ≤ tally passes h'.bare
  pub offsets : (d : DeltaEntry) → IsIn d h.offsets → IsIn d h'.offsets

-- ---- what is sent is added

-- the items that a declaration sends, which is one of a list by its place
abbrev pub sends : Declaration → List Item → Declaration
sends d items = record d { items = d.items ++ items }

-- a history with what one declaration sends more; the others stand before and behind it
abbrev pub with_items : List Declaration → Declaration → List Declaration → List Item → History → History
with_items before d behind items h = record h { declarations = before ++ sends d items ∷ behind }

abbrev pub with_bare : List Item → History → History
with_bare items h = record h { bare = h.bare ++ map (λ (i : Item). i.entry) items }

abbrev pub with_offset : List ℕ → ℕ → History → History
with_offset name offset h = record h { offsets = h.offsets ++ DeltaOffset name offset ∷ [] }
