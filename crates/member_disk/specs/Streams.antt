-- The files of one stream of a disk in memory.
use Rattle.std.specs.Prelude.{◌≡◌, ◌≢◌, ℕ, List, [], ◌∷◌, Some, None, is_some, if◌then◌else◌}
use Rattle.std.specs.BTreeMap.{get}
use Rattle.memory_file.specs.Memory.{Held, IsCrashed, ImageOf, held_at, seen_of, sure}
use Rattle.member_disk.specs.FilesInOrder.{last_of}
use Rattle.disk_calls.specs.declared.file_id.FileName.{FileName}
use Rattle.disk_calls.specs.declared.file_id.FileId.{FileId}
use Rattle.member_disk.specs.declared.memory_stream.MemoryStream.{MemoryStream}
use Rattle.disk_calls.specs.contracts.file_id.FileNameOrd.TheImpl as ordered

-- its files, those of the writes that no sync of their file has followed, in the order of the writes, and for each call that is to fail how many come before it
pub record Stream : Type 0 where
  pub held : FileName → Held
  pub order : List FileName
  pub settings : List ℕ

abbrev pub stream_of : MemoryStream → Stream
stream_of s = record { held = λ f. held_at (get ordered.ghosts.cmp s.files f); order = s.order.items; settings = s.settings.items }

-- one with no files
abbrev pub no_files : Stream
no_files = record { held = λ f. sure None; order = []; settings = [] }

-- one file and the order become these, and all else stays
pub record Moves (name : FileName) (file : Held) (order : List FileName) (old new : Stream) : Type 0 where
  pub own : new.held name ≡ file
  pub others : (f : FileName) → f ≢ name → new.held f ≡ old.held f
  pub in_order : new.order ≡ order
  pub settings : new.settings ≡ old.settings

-- all stays
pub record Stays (old new : Stream) : Type 0 where
  pub held : (f : FileName) → new.held f ≡ old.held f
  pub order : new.order ≡ old.order
  pub settings : new.settings ≡ old.settings

-- A crash took each file's image, which is one of those that it may leave, and the settings are forgotten.
pub record Crashes (image : ℕ) (old new : Stream) : Type 0 where
  pub picked : (f : FileName) → IsCrashed image (last_of old.order ≡ Some f) (old.held f) (new.held f).base
  pub images : (f : FileName) → ImageOf (old.held f) (new.held f).base
  pub sure : (f : FileName) → (new.held f).calls ≡ []
  pub order : new.order ≡ []
  pub settings : new.settings ≡ []

-- the files that are there, of a stream's map
abbrev pub names_there : ℕ → List (FileName × Held) → List FileId
names_there stream [] = []
names_there stream (e ∷ es) = if is_some (seen_of e.1) then record { stream = stream; file = e.0 } ∷ names_there stream es else names_there stream es
