-- Files of a stream in a list.
use Rattle.std.specs.Prelude.{◌-◌, Bool, not, List, filter, length, Option}
use Rattle.std.specs.List.{slice_get}
use Rattle.disk_calls.specs.declared.file_id.FileName.{FileName}
use Rattle.disk_calls.specs.contracts.file_id.FileNamePartialEq.TheImpl as equal

-- the test of equality
unfoldable pub same : FileName → FileName → Bool
same a b = equal.ghosts.eq a b

-- the files of the list but this one
abbrev pub without : FileName → List FileName → List FileName
without name files = filter (λ f. not (same f name)) files

-- the last one of the list
abbrev pub last_of : List FileName → Option FileName
last_of files = slice_get files (length files - 1)
