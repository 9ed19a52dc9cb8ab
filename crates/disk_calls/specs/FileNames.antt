-- The files of a stream.
use Rattle.std.specs.Prelude.{ℕ, ◌-◌, ◌^◌, ◌<◌, List, ◌++◌, length, replicate, codes, Option, Some, None}
use Rattle.std.specs.Fmt.{decimal}
use Rattle.disk_calls.specs.declared.file_id.FileName.{FileName}
use Rattle.disk_calls.specs.declared.file_id.FileName.TheVariants as file

-- the file in which the second form of a gated file stands
abbrev pub second_of : FileName → Option FileName
second_of file.Promise = Some file.PromiseTwo
second_of file.Epochs = Some file.EpochsTwo
second_of file.CatalogWords = Some file.CatalogWordsTwo
second_of (file.Segment first) = None
second_of (file.Index first) = None
second_of file.CatalogBytes = None
second_of file.PromiseTwo = None
second_of file.EpochsTwo = None
second_of file.CatalogWordsTwo = None

-- a number in 20 digits, with zeros in front
unfoldable pub twenty_digits : ℕ → List ℕ
twenty_digits n = replicate (20 - length (decimal n)) 48 ++ decimal n

-- the name of a file in the folder of its stream
abbrev pub text_of : FileName → List ℕ
text_of (file.Segment first) = twenty_digits first ++ codes ".segment"
text_of (file.Index first) = twenty_digits first ++ codes ".index"
text_of file.Promise = codes "promise.words"
text_of file.Epochs = codes "epochs.words"
text_of file.CatalogWords = codes "catalog.words"
text_of file.CatalogBytes = codes "catalog.bytes"
text_of file.PromiseTwo = codes "promise.words2"
text_of file.EpochsTwo = codes "epochs.words2"
text_of file.CatalogWordsTwo = codes "catalog.words2"

-- its number is one of 64 bits
abbrev pub HasOffset : FileName → Type 0
HasOffset (file.Segment first) = first < 2 ^ 64
HasOffset (file.Index first) = first < 2 ^ 64
HasOffset file.Promise = Unit {0}
HasOffset file.Epochs = Unit {0}
HasOffset file.CatalogWords = Unit {0}
HasOffset file.CatalogBytes = Unit {0}
HasOffset file.PromiseTwo = Unit {0}
HasOffset file.EpochsTwo = Unit {0}
HasOffset file.CatalogWordsTwo = Unit {0}
