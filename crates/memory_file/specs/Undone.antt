-- Calls on a file that are taken back.
use Rattle.std.specs.Prelude.{ℕ, List, [], ◌∷◌, length, take, drop, Some, None}
use Rattle.disk_calls.specs.Disk.{Image, bytes_of, over}
use Rattle.memory_file.specs.declared.file.Call.{Call}
use Rattle.memory_file.specs.declared.file.Call.TheVariants as call
use Rattle.memory_file.specs.declared.file.Took.{Took}
use Rattle.memory_file.specs.declared.file.Took.TheVariants as took

-- the bytes of a file at a place, at most so many, and its size
abbrev pub part_of : ℕ → ℕ → Image → Took
part_of place most None = took.Missing
part_of place most (Some bytes) = took.Bytes place (take most (drop place bytes)) (length bytes)

-- what a call takes from a file
abbrev pub takes : Call → Image → Took
takes (call.Write place bytes) file = part_of place (length bytes) file
takes (call.Cut size) file = part_of size (length (bytes_of file)) file

-- a file to which this is given back
abbrev pub given_back : Took → Image → Image
given_back took.Missing file = None
given_back (took.Bytes place bytes size) file = Some (over (take size (bytes_of file)) place bytes)

-- a file to which what calls took is given back, of the last call first
abbrev pub undone : List Took → Image → Image
undone [] file = file
undone (t ∷ ts) file = given_back t (undone ts file)
