-- Where the files of a disk over a folder are.
use Rattle.std.specs.Prelude.{ℕ, List, ◌++◌, codes}
use Rattle.std.specs.Fmt.{decimal}
use Rattle.disk_calls.specs.declared.file_id.FileId.{FileId}
use Rattle.disk_calls.specs.FileNames.{text_of}

-- the folder of a stream in the whole folder
unfoldable pub folder_of : List ℕ → ℕ → List ℕ
folder_of root stream = root ++ codes "/" ++ decimal stream

-- a file in the folder of its stream
unfoldable pub path_of : List ℕ → FileId → List ℕ
path_of root id = folder_of root id.stream ++ codes "/" ++ text_of id.file
