-- The whole recovery: names, first pass, walk.
use Rattle.std.proofs.Common.{◌≡◌, ◌≢◌, ℕ, List, Result, refl, sym, ◌∙◌, subst}
use Rattle.std.specs.Prelude.{OnOk}
use Rattle.disk_calls.specs.declared.file_id.FileId.{FileId}
use Rattle.disk_calls.specs.Disk.{AreNames, DiskState, Image, LeftByCrash, Looks}
use Rattle.disk_calls.specs.Frames.{OtherStreams}
use Rattle.chunk_format.specs.declared.chunk.Chunk.{Chunk}
use Rattle.segment_pairs.specs.Log.{Finder}
use Rattle.segment_pairs.specs.Held.{segment_file, index_file, KeepsLog, OutsideLog}
use Rattle.segment_pairs.proofs.Lifting.{outside_then}
use Rattle.segment_store.specs.declared.rows.ChunkAt.{ChunkAt}
use Rattle.segment_store.specs.Recovery.{AreNumbers, Clears, Covers, NoneReturns, Recovers, SeenDamaged}
use Rattle.segment_store.proofs.RecoveryGhosts.{keeps_then, looks_keep, looks_same_log}
use Rattle.segment_store.proofs.RecoveryNumbers.{covers_looks, covers_names}
use Rattle.segment_store.proofs.RecoveryLast.{recovers_from}
use Rattle.segment_store.proofs.RecoveryDamage.{damaged_again, damaged_looks, damaged_looked, damaged_same}
use Rattle.segment_store.proofs.RecoveryJoined.{cleared_recovers, on_ok, outside_looks}

pub covers_seen : (stream : ℕ) (s t : DiskState) (found names : List FileId) (numbers : List ℕ) → Looks s t → NoneReturns stream s → AreNames stream s.seen found → names ≡ found → AreNumbers names numbers → Covers stream numbers t
covers_seen stream s t found names numbers looks returns are same has =
    covers_looks stream numbers s t looks (covers_names stream s found numbers returns are (subst (λ (l : List FileId). AreNumbers l numbers) same has))

pub found_keeps : (stream : ℕ) (s t u v : DiskState) → Looks s t → KeepsLog stream t u → KeepsLog stream u v → KeepsLog stream s v
found_keeps stream s t u v looks clears reads = keeps_then stream s t v (looks_keep stream s t looks) (keeps_then stream t u v clears reads)

pub found_outside : (stream : ℕ) (s t u v : DiskState) → Looks s t → OutsideLog stream t u → OutsideLog stream u v → OutsideLog stream s v
found_outside stream s t u v looks clears reads = outside_then stream s t v (outside_looks stream s t looks) (outside_then stream t u v clears reads)

pub found_recovers : (stream : ℕ) (numbers : List ℕ) (rows : List ChunkAt) (chunks : List Chunk) (s t u v : DiskState) → Looks s t → Clears stream t u numbers → Recovers stream rows chunks u v → Recovers stream rows chunks s v
found_recovers stream numbers rows chunks s t u v looks clears r = recovers_from stream rows chunks s t v (λ F. looks_same_log F stream s t looks) (cleared_recovers stream numbers rows chunks t u v clears r)

pub found_damaged : (F : Finder) (stream : ℕ) (numbers : List ℕ) (segment at : ℕ) (s t u : DiskState) → Looks s t → Clears stream t u numbers → SeenDamaged F stream u segment at → SeenDamaged F stream s segment at
found_damaged F stream numbers segment at s t u looks clears damaged = damaged_looks F stream s t segment at looks (damaged_same F stream t u segment at clears.same damaged)

pub found_sound : (F : Finder) (stream : ℕ) (numbers : List ℕ) (segment at : ℕ) (s t u : DiskState) {T E : Type 0} (result : Result T E) → Looks s t → Clears stream t u numbers → OnOk result (SeenDamaged F stream u segment at → ⊥) → OnOk result (SeenDamaged F stream s segment at → ⊥)
found_sound F stream numbers segment at s t u result looks clears told =
    on_ok result (λ sound damaged. sound (damaged_again F stream t u segment at clears.same (damaged_looked F stream s t segment at looks damaged))) told

-- ---- where recovery may begin

none_stays : (stream : ℕ) (s t : DiskState) → ((f : FileId) → f.stream ≡ stream → t.seen f ≡ s.seen f) → ((f : FileId) → f.stream ≡ stream → (c : Image) → t.images f c → s.images f c) → NoneReturns stream s → NoneReturns stream t
none_stays stream s t seen images returns n lt segment index c left =
    returns n lt (sym (seen (segment_file stream n) refl) ∙ segment) (sym (seen (index_file stream n) refl) ∙ index) c (images (index_file stream n) refl c left)

pub none_looks : (stream : ℕ) (s t : DiskState) → Looks s t → NoneReturns stream s → NoneReturns stream t
none_looks stream s t looks = none_stays stream s t (λ f same. looks.seen f) (λ f same. looks.images f)

pub none_streams : (stream of : ℕ) (s t : DiskState) → stream ≢ of → OtherStreams of s t → NoneReturns stream s → NoneReturns stream t
none_streams stream of s t ne others = none_stays stream s t (λ f same. others.seen f (λ is. ne (sym same ∙ is))) (λ f same. others.images f (λ is. ne (sym same ∙ is)))

pub none_crash : (stream : ℕ) (s t : DiskState) → LeftByCrash stream s t → NoneReturns stream t
none_crash stream s t crash n lt segment index c left = (crash.own (index_file stream n) refl).1 c left ∙ index
