-- Files that stand behind a catalog in hand, after a crash and as long as they stay.
use Rattle.std.proofs.Common.{◌≡◌, ℕ, List, sym, subst}
use Rattle.disk_calls.specs.declared.file_id.FileId.{FileId}
use Rattle.disk_calls.specs.Disk.{DiskState, Image, LeftByCrash}
use Rattle.disk_calls.specs.Frames.{FileStays}
use Rattle.disk_calls.proofs.FrameLemmas.{holds_stays, holds_outlasts, each_image_outlasts}
use Rattle.gated_words.specs.InHand.{InHand}
use Rattle.gated_words.specs.Files.{second_file}
use Rattle.gated_words.specs.Backing.{Backs}
use Rattle.gated_words.proofs.Hands.{stays_backs, crash_backs}
use Rattle.stream_catalog.specs.Files.{CatalogFiles, Leaves, words_id, bytes_id}
use Rattle.stream_catalog.specs.InHand.{Catalogued, Known, Backed}

back_by : (s t : DiskState) → ((f : FileId) → (c : Image) → t.images f c → s.images f c) → (files : CatalogFiles) → Leaves t files → Leaves s files
back_by s t back files left = record {
  words = record { first = back words_id files.words.first left.words.first; second = back (second_file words_id) files.words.second left.words.second };
  bytes = back bytes_id files.bytes left.bytes;
}

pub backed_stays : (c : Catalogued) (s t : DiskState) → FileStays words_id s t → FileStays (second_file words_id) s t → FileStays bytes_id s t → Backed c s → Backed c t
backed_stays c s t one two bytes b = record {
  known = λ sure.
      let k = b.known sure in
      let first : FileStays c.words.id s t = subst (λ (f : FileId). FileStays f s t) (sym k.id) one in
      let second : FileStays (second_file c.words.id) s t = subst (λ (f : FileId). FileStays (second_file f) s t) (sym k.id) two in
      record { bytes = k.bytes; holds = holds_stays bytes_id k.bytes s t bytes k.holds; is_len = k.is_len; backs = stays_backs c.words s t first second k.backs; words_sure = k.words_sure; id = k.id; reads = k.reads };
  near = (
    b.near.0,
    λ files left. b.near.1 files (record {
      words = record { first = one.images files.words.first left.words.first; second = two.images files.words.second left.words.second };
      bytes = bytes.images files.bytes left.bytes;
    }),
  );
}

image_back : (stream : ℕ) (s t : DiskState) → LeftByCrash stream s t → (f : FileId) (c : Image) → t.images f c → s.images f c
image_back stream s t crash f c left = each_image_outlasts f (λ d. s.images f d) stream s t crash (λ d there. there) c left

pub backed_outlasts : (c : Catalogued) (stream : ℕ) (s t : DiskState) → LeftByCrash stream s t → Backed c s → Backed c t
backed_outlasts c stream s t crash b = record {
  known = λ sure.
      let k = b.known sure in
      record { bytes = k.bytes; holds = holds_outlasts bytes_id k.bytes stream s t crash k.holds; is_len = k.is_len; backs = crash_backs c.words stream s t crash k.backs; words_sure = k.words_sure; id = k.id; reads = k.reads };
  near = (b.near.0, λ files left. b.near.1 files (back_by s t (image_back stream s t crash) files left));
}
