-- The files of the catalog and those of epochs are not the same, so each keeps its own while the other changes.
use Rattle.std.proofs.Common.{◌≡◌, ◌≢◌, sym, ap, subst}
use Rattle.disk_calls.specs.declared.file_id.FileId.{FileId}
use Rattle.disk_calls.specs.declared.file_id.FileName.TheVariants as file
use Rattle.disk_calls.specs.Disk.{DiskState}
use Rattle.disk_calls.specs.Frames.{Besides, FileStays}
use Rattle.disk_calls.proofs.FrameLemmas.{besides_stay}
use Rattle.gated_words.specs.InHand.{InHand}
use Rattle.gated_words.specs.Files.{second_file}
use Rattle.gated_words.specs.Backing.{Backs}
use Rattle.gated_words.proofs.Hands.{stays_backs}
use Rattle.segment_store.specs.Words.{epochs_file}
use Rattle.stream_catalog.specs.Files.{words_id, bytes_id}
use Rattle.stream_catalog.specs.InHand.{Catalogued, Backed, OtherFiles}
use Rattle.stream_catalog.proofs.Staying.{backed_stays}
use Rattle.catalog_room.specs.Rooms.{Room}

-- ---- the files of epochs are none of the catalog's

one_words : epochs_file ≢ words_id
one_words e = let is : file.Epochs ≡ file.CatalogWords = ap (λ (f : FileId). f.file) e in cc

one_words_two : epochs_file ≢ second_file words_id
one_words_two e = let is : file.Epochs ≡ file.CatalogWordsTwo = ap (λ (f : FileId). f.file) e in cc

one_bytes : epochs_file ≢ bytes_id
one_bytes e = let is : file.Epochs ≡ file.CatalogBytes = ap (λ (f : FileId). f.file) e in cc

two_words : second_file epochs_file ≢ words_id
two_words e = let is : file.EpochsTwo ≡ file.CatalogWords = ap (λ (f : FileId). f.file) e in cc

two_words_two : second_file epochs_file ≢ second_file words_id
two_words_two e = let is : file.EpochsTwo ≡ file.CatalogWordsTwo = ap (λ (f : FileId). f.file) e in cc

two_bytes : second_file epochs_file ≢ bytes_id
two_bytes e = let is : file.EpochsTwo ≡ file.CatalogBytes = ap (λ (f : FileId). f.file) e in cc

-- ---- a change of the catalog leaves the epochs

stays_so : (f : FileId) (s t : DiskState) → f ≢ words_id → f ≢ second_file words_id → f ≢ bytes_id → OtherFiles s t → FileStays f s t
stays_so f s t one two three others = record { seen = others.seen f one two three; images = others.images f one two three }

pub epochs_stay : (hand : InHand) (s t : DiskState) → hand.id ≡ epochs_file → OtherFiles s t → Backs hand s → Backs hand t
epochs_stay hand s t is others backs =
    let first : FileStays hand.id s t = subst (λ (f : FileId). FileStays f s t) (sym is) (stays_so epochs_file s t one_words one_words_two one_bytes others) in
    let second : FileStays (second_file hand.id) s t = subst (λ (f : FileId). FileStays (second_file f) s t) (sym is) (stays_so (second_file epochs_file) s t two_words two_words_two two_bytes others) in
    stays_backs hand s t first second backs

-- ---- an epoch that is given leaves the catalog

pub catalog_stays : (c : Catalogued) (s t : DiskState) → Besides epochs_file (second_file epochs_file) s t → Backed c s → Backed c t
catalog_stays c s t others backed =
    backed_stays c s t
    (besides_stay words_id epochs_file (second_file epochs_file) s t (λ e. one_words (sym e)) (λ e. two_words (sym e)) others)
    (besides_stay (second_file words_id) epochs_file (second_file epochs_file) s t (λ e. one_words_two (sym e)) (λ e. two_words_two (sym e)) others)
    (besides_stay bytes_id epochs_file (second_file epochs_file) s t (λ e. one_bytes (sym e)) (λ e. two_bytes (sym e)) others)
    backed

-- what is said of a file that is that of epochs, with the disk as the lock's value is seen
pub of_epochs : {D : Type 0} (P : FileId → D → Type 0) (r a : Room D) → r ≡ a → r.epochs.id ≡ epochs_file → P r.epochs.id r.disk → P epochs_file a.disk
of_epochs {D} P r a is id p = subst (λ (x : Room D). P epochs_file x.disk) is (subst (λ (f : FileId). P f r.disk) id p)
