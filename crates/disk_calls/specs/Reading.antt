-- What came of reading a whole file.
use Rattle.std.specs.Prelude.{◌≡◌, Some, None, Result, Ok, Err}
use Rattle.std.specs.declared.alloc.AllocError.{AllocError}
use Rattle.disk_calls.specs.Disk.{DiskState, Settled}
use Rattle.disk_calls.specs.declared.file_id.FileId.{FileId}
use Rattle.disk_calls.specs.declared.whole_file.WholeFile.{WholeFile}
use Rattle.disk_calls.specs.declared.whole_file.WholeFile.TheVariants as whole

-- the bytes are those of the file, and all of it is on the disk; or it is missing
abbrev pub ReadsWhole : FileId → DiskState → DiskState → Result WholeFile AllocError → Type 0
ReadsWhole id old new (Ok (whole.Bytes bytes)) = (old.seen id ≡ Some bytes.items) × Settled id bytes.items new
ReadsWhole id old new (Ok whole.Missing) = old.seen id ≡ None
ReadsWhole id old new (Ok whole.Failed) = Unit {0}
ReadsWhole id old new (Err none) = Unit {0}
