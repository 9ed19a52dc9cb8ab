-- Which items of an offer are taken, and what a run of them is.
use Rattle.std.specs.Prelude.{◌≡◌, ℕ, ◌^◌, ◌<◌, Bool, true, ◌==◌, List, [], ◌∷◌, length, map, take, drop, Option}
use Rattle.std.specs.List.{AllByRecursion}
use Rattle.chunk_format.specs.declared.entry.Entry.{Entry}
use Rattle.chunk_format.specs.Chunks.{entry_records}
use Rattle.chunk_format.specs.Tags.{tag_bytes}
use Rattle.command_data.specs.declared.item.Tagged.{Tagged}
use Rattle.epoch_coordinator.specs.Offers.{Item, is_new, rising_from, trailer_by}
use Rattle.offer_chunks.specs.declared.run.Run.{Run}

-- the entry and the id of an item that a client sent
abbrev pub sent_entry : Tagged → Entry
sent_entry t = t.entry

abbrev pub sent_id : Tagged → ℕ
sent_id t = t.id

-- an item as the rules of replication have it
abbrev pub item_of : Tagged → Item
item_of t = record { id = t.id; entry = t.entry }

abbrev pub items_of : List Tagged → List Item
items_of items = map item_of items

abbrev pub entry_of : Item → Entry
entry_of item = item.entry

abbrev pub entries_of : List Item → List Entry
entries_of items = map entry_of items

abbrev pub IdFits : Item → Type 0
IdFits item = item.id < 2 ^ 64

-- a sub-batch of no records
abbrev pub is_empty_batch : Tagged → Bool
is_empty_batch t = entry_records t.entry == 0

-- an item is taken behind a greatest id: without a name always, with one where its id is above it
abbrev pub is_taken : List ℕ → Option ℕ → ℕ → Bool
is_taken [] greatest id = true
is_taken (x ∷ name) greatest id = is_new greatest id

-- the items that are taken: without a name all, with one those whose ids rise from above the greatest on
abbrev pub taken_from : List ℕ → Option ℕ → List Item → List Item
taken_from [] greatest items = items
taken_from (x ∷ name) greatest items = rising_from greatest items

-- the tag of an id, where the publisher has a name
abbrev pub tag_for : List ℕ → ℕ → List ℕ
tag_for [] id = []
tag_for (x ∷ name) id = tag_bytes (record { name = x ∷ name; id = id })

-- The first so many items that are taken: their entries, their tags, and what is left behind them.
pub record IsRun (name : List ℕ) (greatest : Option ℕ) (most : ℕ) (items : List Item) (run : Run) : Type 0 where
  pub entries_are : run.entries ≡ entries_of (take most (taken_from name greatest items))
  pub trailer_is : run.trailer ≡ trailer_by name (take most (taken_from name greatest items))
  pub rest_is : taken_from name run.greatest (items_of run.rest.now) ≡ drop most (taken_from name greatest items)
  -- at least one item was looked at, if there is one
  pub shorter : 0 < length items → length run.rest.now < length items
  pub taken_fit : AllByRecursion IdFits (take most (taken_from name greatest items))
  pub ids_fit : AllByRecursion IdFits (items_of run.rest.now) → AllByRecursion IdFits items
