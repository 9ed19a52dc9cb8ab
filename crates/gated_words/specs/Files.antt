-- The two files of gated pairs, and which of them counts.
use Rattle.std.specs.Prelude.{ℕ, Option, Some, None, IsSome, List}
use Rattle.disk_calls.specs.declared.file_id.FileId.{FileId}
use Rattle.disk_calls.specs.declared.file_id.FileName.{FileName}
use Rattle.disk_calls.specs.FileNames.{second_of}
use Rattle.disk_calls.specs.Disk.{DiskState, Image, bytes_of}
use Rattle.gated_words.specs.declared.record.Form.{Form}
use Rattle.gated_words.specs.declared.record.Form.TheVariants as form
use Rattle.gated_words.specs.Words.{pairs_in, OpensAs, DamagesAs}

-- a file that has a second
abbrev pub HasSecond : FileId → Type 0
HasSecond id = IsSome (second_of id.file)

abbrev pub or_same : Option FileName → FileName → FileName
or_same (Some second) name = second
or_same None name = name

-- the second file; where there is none, the file itself
abbrev pub second_file : FileId → FileId
second_file id = record { stream = id.stream; file = or_same (second_of id.file) id.file }

-- what stands in the places of the two files
pub record Files : Type 0 where
  pub first : Image
  pub second : Image

-- what a read gives of both
abbrev pub seen_files : FileId → DiskState → Files
seen_files id s = record { first = s.seen id; second = s.seen (second_file id) }

-- a crash may leave these two
pub record Leaves (id : FileId) (s : DiskState) (files : Files) : Type 0 where
  pub first : s.images id files.first
  pub second : s.images (second_file id) files.second

-- the first file counts where it is there, else the second
abbrev pub form_of : Image → Form
form_of (Some bytes) = form.First
form_of None = form.Second

-- the bytes of the file that counts
abbrev pub counting : Image → Image → List ℕ
counting (Some bytes) second = bytes
counting None second = bytes_of second

-- the pairs of the two files: those of the file that counts
abbrev pub PairsOf : Files → List (ℕ × ℕ)
PairsOf files = pairs_in (form_of files.first) (counting files.first files.second)

-- two files that can be opened
abbrev pub Opens : Files → Type 0
Opens files = OpensAs (form_of files.first) (counting files.first files.second)

-- two files of which the one that counts is damaged, and where
abbrev pub Damages : ℕ → Files → Type 0
Damages place files = DamagesAs (form_of files.first) place (counting files.first files.second)
