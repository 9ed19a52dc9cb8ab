-- What a crash leaves of a segment and its index.
use Rattle.std.specs.Prelude.{◌≡◌, ◌⊎◌, ℕ, ◌+◌, ◌*◌, ◌≤◌, List, length, true, None}
use Rattle.disk_calls.specs.Disk.{DiskState, Image, bytes_of}
use Rattle.segment_pairs.specs.Log.{Finder, begins, segment_header, index_header, pair_log}
use Rattle.segment_pairs.specs.Held.{segment_file, index_file}

-- a file of no more bytes than a header has, or with this header
abbrev pub IsHeaded : List ℕ → List ℕ → Type 0
IsHeaded header bytes = (length bytes ≤ 8) ⊎ (begins header bytes ≡ true)

-- a crash may leave these two files of a number: no index is there without its segment, behind the records of its chunks the index has no more bytes than those of one, and the headers of 0 are no others
pub record IsLeft (n : ℕ) (segment index : Image) : Type 0 where
  pub together : segment ≡ None → index ≡ None
  pub few : (F : Finder) → length (bytes_of index) ≤ 8 + 29 * length (pair_log F n (bytes_of segment, bytes_of index)) + 29
  pub headers : n ≡ 0 → IsHeaded segment_header (bytes_of segment) × IsHeaded index_header (bytes_of index)

-- all images of the two are so
abbrev pub EachLeft : ℕ → ℕ → DiskState → Type 0
EachLeft stream n s = (a b : Image) → s.images (segment_file stream n) a → s.images (index_file stream n) b → IsLeft n a b
