-- What pairs of a stream and a word stand for: the promises of a member, and the epochs of streams.
use Rattle.std.specs.Prelude.{ℕ, List, [], ◌∷◌, ◌==◌, if◌then◌else◌}
use Rattle.disk_calls.specs.declared.file_id.FileId.{FileId}
use Rattle.disk_calls.specs.declared.file_id.FileName.TheVariants as name
use Rattle.disk_calls.specs.Disk.{DiskState}
use Rattle.gated_words.specs.Files.{PairsOf}
use Rattle.gated_words.specs.Backing.{EachBoth}

-- the word of the last of these pairs that is of a stream, or else the one before
abbrev pub word_from : ℕ → ℕ → List (ℕ × ℕ) → ℕ
word_from stream word [] = word
word_from stream word (pair ∷ pairs) = word_from stream (if pair.0 == stream then pair.1 else word) pairs

-- the word of the last pair of a stream, 0 where there is none
abbrev pub word_of : ℕ → List (ℕ × ℕ) → ℕ
word_of stream pairs = word_from stream 0 pairs

-- the epochs of all streams, on the disk of the coordinator
abbrev pub epochs_file : FileId
epochs_file = record { stream = 0; file = name.Epochs }

-- this holds of the word of a stream in each image of the files of pairs
abbrev pub EachWord : FileId → ℕ → (ℕ → Type 0) → DiskState → Type 0
EachWord id stream P s = EachBoth id (λ files. P (word_of stream (PairsOf files))) s
