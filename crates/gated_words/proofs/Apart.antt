-- The two files are two.
use Rattle.std.proofs.Common.{ℕ, List, ◌≡◌, ◌≢◌, Some, sym, ap, subst}
use Rattle.disk_calls.specs.declared.file_id.FileId.{FileId}
use Rattle.disk_calls.specs.declared.file_id.FileName.{FileName}
use Rattle.disk_calls.specs.declared.file_id.FileName.TheVariants as file
use Rattle.disk_calls.specs.FileNames.{second_of}
use Rattle.std.proofs.lemmas.Bool.{false≢true}
use Rattle.std.specs.Prelude.{IsSome}
use Rattle.disk_calls.specs.Disk.{DiskState}
use Rattle.gated_words.specs.declared.record.Form.TheVariants as form
use Rattle.gated_words.specs.Words.{spelled}
use Rattle.gated_words.specs.Files.{HasSecond, or_same, second_file}
use Rattle.gated_words.specs.Backing.{Held}

names_apart : (name : FileName) → IsSome (second_of name) → name ≢ or_same (second_of name) name
names_apart file.Promise has is = cc
names_apart file.Epochs has is = cc
names_apart file.CatalogWords has is = cc
names_apart (file.Segment first) has is = false≢true has
names_apart (file.Index first) has is = false≢true has
names_apart file.CatalogBytes has is = false≢true has
names_apart file.PromiseTwo has is = false≢true has
names_apart file.EpochsTwo has is = false≢true has
names_apart file.CatalogWordsTwo has is = false≢true has

pub apart : (id : FileId) → HasSecond id → id ≢ second_file id
apart id has is = names_apart id.file has (ap (λ (f : FileId). f.file) is)

-- files of which one is gone and one is there are two
pub held_apart : (id : FileId) (pairs : List (ℕ × ℕ)) (s : DiskState) → Held id pairs s → id ≢ second_file id
held_apart id pairs s held is = absurd (cc (held.gone.seen, subst (λ (f : FileId). s.seen f ≡ Some (spelled form.Second pairs)) (sym is) held.settled.seen))
