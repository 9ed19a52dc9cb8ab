-- The catalog that the files on a disk stand for.
use Rattle.std.specs.Prelude.{ℕ, ◌+◌, ◌^◌, ◌==◌, Bool, false, ◌&&◌, nat_lt, nat_le, is_none, List, [], ◌∷◌, length, take, drop, Option, Some, None, option_and_then, Result, Ok, Err, if◌then◌else◌}
use Rattle.disk_calls.specs.declared.file_id.FileId.{FileId}
use Rattle.disk_calls.specs.declared.file_id.FileName.TheVariants as file
use Rattle.disk_calls.specs.Disk.{DiskState, Image, bytes_of}
use Rattle.frame_wire.specs.Joins.{◌>>=◌}
use Rattle.gated_words.specs.Files as words
use Rattle.stream_catalog.specs.declared.change.Change.{Change}
use Rattle.stream_catalog.specs.declared.change.ChangeKind.{ChangeKind}
use Rattle.stream_catalog.specs.declared.change.ChangeKind.TheVariants.{Create, Delete, CreateSuper, DeleteSuper}
use Rattle.stream_catalog.specs.declared.fault.CatalogFault.{CatalogFault}
use Rattle.stream_catalog.specs.Names.{Names, no_names}
use Rattle.stream_catalog.specs.Rules.{create_refused, super_refused, deletes, deletes_super, changed}
use Rattle.stream_catalog.specs.ChangeBytes.{change_of}

-- ---- which changes fit

-- so many numbers from this one on, each above all that were given and below 2^32
abbrev pub are_new : ℕ → ℕ → Names → Bool
are_new number count names = nat_lt names.last number && nat_le (number + count) (2 ^ 32)

-- the rules answer with the change of this number
abbrev pub answers : ℕ → Result Change CatalogFault → Bool
answers number (Ok c) = c.number == number
answers number (Err fault) = false

-- A change fits the changes before it: one that comes isn't refused by the rules but for the limit of live streams, and has new numbers; one that goes has the number that the rules find.
abbrev pub fits_as : ChangeKind → Change → Names → Bool
fits_as Create c names = is_none (create_refused c.name names) && are_new c.number 1 names
fits_as CreateSuper c names = is_none (super_refused c.name c.parts c.keys names) && are_new c.number (length c.parts) names
fits_as Delete c names = answers c.number (deletes c.name names)
fits_as DeleteSuper c names = answers c.number (deletes_super c.name names)

abbrev pub fits : Change → Names → Bool
fits c names = fits_as c.kind c names

-- ---- pairs and bytes

-- the names after a change, where it fits
abbrev pub fitted : Names → Change → Option Names
fitted names c = if fits c names then Some (changed c names) else None

-- the change of a pair: a place and a length in the bytes
abbrev pub change_at : List ℕ → ℕ × ℕ → Option Change
change_at bytes pair = if nat_le (pair.0 + pair.1) (length bytes) then change_of (take pair.1 (drop pair.0 bytes)) else None

-- the names after the change of a pair
abbrev pub one_more : List ℕ → ℕ × ℕ → Names → Option Names
one_more bytes pair names = option_and_then (fitted names) (change_at bytes pair)

-- the first pair that is damaged has its place told; a pair has 18 bytes in the file of pairs
abbrev pub or_damaged : ℕ → Option Names → Result Names ℕ
or_damaged place None = Err place
or_damaged place (Some names) = Ok names

abbrev pub names_after : List ℕ → ℕ → List (ℕ × ℕ) → Names → Result Names ℕ
names_after bytes place [] names = Ok names
names_after bytes place (pair ∷ pairs) names = or_damaged place (one_more bytes pair names) >>= λ more. names_after bytes (place + 18) pairs more

-- the names that pairs and bytes stand for, or the place of the first pair that is damaged
abbrev pub names_in : List ℕ → List (ℕ × ℕ) → Result Names ℕ
names_in bytes pairs = names_after bytes 8 pairs no_names

-- ---- files

-- the first file of pairs, and the file of changes
abbrev pub words_id : FileId
words_id = record { stream = 0; file = file.CatalogWords }

abbrev pub bytes_id : FileId
bytes_id = record { stream = 0; file = file.CatalogBytes }

-- what stands in the places of the two files of pairs and of the file of changes
pub record CatalogFiles : Type 0 where
  pub words : words.Files
  pub bytes : Image

-- what a read gives of them
abbrev pub seen_files : DiskState → CatalogFiles
seen_files s = record { words = words.seen_files words_id s; bytes = s.seen bytes_id }

-- a crash may leave these
pub record Leaves (s : DiskState) (files : CatalogFiles) : Type 0 where
  pub words : words.Leaves words_id s files.words
  pub bytes : s.images bytes_id files.bytes

-- the names that files stand for
abbrev pub catalog_of : CatalogFiles → Result Names ℕ
catalog_of files = names_in (bytes_of files.bytes) (words.PairsOf files.words)
