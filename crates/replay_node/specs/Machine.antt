-- The list machine: what a stream server must be, with no queue, file, member or buffer in it.
use Rattle.std.specs.Prelude.{ℕ, ◌≤◌, ◌==◌, if◌then◌else◌, Bool, false, ◌&&◌, List, [], ◌∷◌, count_by, Option, Some, None}
use Rattle.std.specs.List.{flat_map}
use Rattle.std.specs.Cmp.Lexicographic.{pointwise}
use Rattle.chunk_format.specs.declared.entry.Entry.{Entry}
use Rattle.chunk_format.specs.declared.entry.Entry.TheVariants.{Simple, Batch}
use Rattle.chunk_format.specs.declared.chunk.Chunk.{Chunk}
use Rattle.chunk_format.specs.LogRows.{LogRow, Rows, Tag}
use Rattle.command_data.specs.declared.item.Tagged.{Tagged}
use Rattle.command_data.specs.declared.command.DataCommand.{DataCommand}

-- A live stream: its name, its list of chunks, the list as last seen, and the entries confirmed for publishers without a name.
pub record StreamState : Type 0 where
  pub name : List ℕ
  pub chunks : List Chunk
  pub seen : List Chunk
  pub confirmed : List Entry

-- A declared publisher: its id, the number of its stream, its name if it has one, and the Publish frames that were read
-- and had no confirm and no error.
pub record PublisherState : Type 0 where
  pub id : ℕ
  pub stream : ℕ
  pub name : Option (List ℕ)
  pub unanswered : List (List Tagged)

-- A connection: the bytes that are no whole frame yet, the commands that were read and neither handled nor answered, and
-- its publishers.
pub record ConnectionState : Type 0 where
  pub rest : List ℕ
  pub inbox : List DataCommand
  pub publishers : List PublisherState

-- Streams and connections by number, and the last number that a stream was given.
pub record Machine : Type 0 where
  pub last : ℕ
  pub streams : List (ℕ × StreamState)
  pub connections : List (ℕ × ConnectionState)

abbrev pub empty_machine : Machine
empty_machine = record { last = 0; streams = []; connections = [] }

-- what stands at a number
abbrev pub find : {X : Type 0} → ℕ → List (ℕ × X) → Option X
find number [] = None
find number (e ∷ es) = if number == e.0 then Some e.1 else find number es

-- the same with another value at a number
abbrev pub put : {X : Type 0} → ℕ → X → List (ℕ × X) → List (ℕ × X)
put number value [] = []
put number value (e ∷ es) = if number == e.0 then (number, value) ∷ es else e ∷ put number value es

abbrev pub are_same_bytes : List ℕ → List ℕ → Bool
are_same_bytes a b = pointwise (λ x y. x == y) a b

abbrev pub is_same_entry : Entry → Entry → Bool
is_same_entry (Simple a) (Simple b) = are_same_bytes a b
is_same_entry (Simple a) (Batch compression spare records uncompressed b) = false
is_same_entry (Batch compression spare records uncompressed a) (Simple b) = false
is_same_entry (Batch compression spare records uncompressed a) (Batch other_compression other_spare other_records other_uncompressed b) =
    (compression == other_compression) && (spare == other_spare) && (records == other_records) && (uncompressed == other_uncompressed) && are_same_bytes a b

-- the entry of a row without a tag
abbrev pub untagged_by : Option Tag → Entry → List Entry
untagged_by None entry = entry ∷ []
untagged_by (Some tag) entry = []

abbrev pub untagged_of : LogRow → List Entry
untagged_of row = untagged_by row.tag row.entry

-- the entries of a list's rows without a tag
abbrev pub untagged : List Chunk → List Entry
untagged chunks = flat_map untagged_of (Rows chunks)

-- Counted: each entry stands in the list without a tag at least as often as it was confirmed to publishers without a name.
abbrev pub Counted : StreamState → Type 0
Counted stream = (entry : Entry) → count_by (is_same_entry entry) stream.confirmed ≤ count_by (is_same_entry entry) (untagged stream.chunks)

-- the epoch of the last chunk
abbrev pub last_epoch : List Chunk → ℕ
last_epoch [] = 0
last_epoch (chunk ∷ []) = chunk.epoch
last_epoch (chunk ∷ next ∷ more) = last_epoch (next ∷ more)
