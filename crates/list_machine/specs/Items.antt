-- What a publisher sends: items, each an entry under an id; and what is said of lists of them.
use Rattle.std.specs.Prelude.{◌≡◌, ℕ, ◌<◌, ◌≤◌, ◌⊎◌, Bool, List, [], ◌∷◌, Option, Some, None, flat_map, if◌then◌else◌}
use Rattle.std.specs.List.{AllByRecursion}
use Rattle.chunk_format.specs.declared.entry.Entry.{Entry}
use Rattle.chunk_format.specs.declared.chunk.Chunk.{Chunk}
use Rattle.chunk_format.specs.LogRows.{Tag, LogRow, Rows}
use Rattle.chunk_format.specs.Logs.{same_name, tally}
use Rattle.command_data.specs.declared.item.Tagged.{Tagged}

-- the item that a row stands for, where its tag has this name
abbrev pub item_by : List ℕ → Entry → Option Tag → List Tagged
item_by name entry None = []
item_by name entry (Some tag) = if same_name tag.name name then record { id = tag.id; entry = entry } ∷ [] else []

-- the items of a name among rows, in order
abbrev pub items_by : List ℕ → List LogRow → List Tagged
items_by name rows = flat_map (λ (row : LogRow). item_by name row.entry row.tag) rows

-- the items of a name in a list of chunks
abbrev pub items_in : List ℕ → List Chunk → List Tagged
items_in name chunks = items_by name (Rows chunks)

-- the property holds of one of them
abbrev pub AnyByRecursion : {X : Type 0} → (X → Type 0) → List X → Type 0
AnyByRecursion P [] = ⊥
AnyByRecursion P (x ∷ xs) = P x ⊎ AnyByRecursion P xs

-- it is one of them
abbrev pub IsIn : {X : Type 0} → X → List X → Type 0
IsIn {X} x xs = AnyByRecursion (λ (y : X). y ≡ x) xs

-- ids strictly rise
abbrev pub Rises : List Tagged → Type 0
Rises [] = Unit {0}
Rises (x ∷ xs) = AllByRecursion (λ (y : Tagged). x.id < y.id) xs × Rises xs

-- the id is at most that of some item
abbrev pub IsReached : List Tagged → ℕ → Type 0
IsReached items id = AnyByRecursion (λ (x : Tagged). id ≤ x.id) items

-- the ids of the second list are each at most some id of the first
abbrev pub AreReached : List Tagged → List Tagged → Type 0
AreReached items others = AllByRecursion (λ (x : Tagged). IsReached items x.id) others

-- the id is above all ids of the items
abbrev pub IsAbove : List Tagged → ℕ → Type 0
IsAbove items id = AllByRecursion (λ (x : Tagged). x.id < id) items

-- Whatever entries are counted, the first list has at most as many of them as the second.
abbrev pub AtMostAsOften : List Entry → List Entry → Type 0
AtMostAsOften some many = (counts : Entry → Bool) → tally counts some ≤ tally counts many
