use Rattle.std.proofs.Common.{◌≡◌, Some, None}
use Rattle.std.specs.BTreeMap.{get, is_at}
use Rattle.std.specs.Map.{lookup}
use Rattle.memory_file.specs.Memory.{CrashedFile, held_at}
use Rattle.member_disk.specs.FilesInOrder.{last_of}
use Rattle.disk_calls.specs.declared.file_id.FileName.{FileName}
use Rattle.disk_calls.specs.contracts.file_id.FileNameOrd.TheImpl as ordered
use Rattle.member_disk.proofs.memory_stream.crash_files.Given as goal

-- the files that the loop has passed, and those that are missing
abbrev pub invariant-loop-name : goal.invariant-loop-name
invariant-loop-name l = (f : FileName) → lookup (is_at (ordered.ghosts.cmp f)) l.name-iterator ≡ None → CrashedFile l.image (last_of l.order ≡ Some f) (held_at (get ordered.ghosts.cmp l.files f)) (held_at (get ordered.ghosts.cmp l.next f))
