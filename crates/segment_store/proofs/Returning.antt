-- A member's log and promises, recovered one after the other.
use Rattle.std.proofs.Common.{◌≡◌, ◌≢◌, inl, inr, ℕ, List, Bool, refl, sym, ◌∙◌, ap, subst, if◌then◌else◌, ◌==◌}
use Rattle.std.proofs.lemmas.Bool.{cases_eq, eq-eqb, ne_eqb}
use Rattle.std.specs.Prelude.{IsTrue, IsErrOf, IsErrAnd, Result, Ok, Err}
use Rattle.segment_store.specs.declared.fault.StoreFault.{StoreFault}
use Rattle.disk_calls.specs.declared.file_id.FileId.{FileId}
use Rattle.disk_calls.specs.declared.file_id.FileName.{FileName}
use Rattle.disk_calls.specs.declared.file_id.FileName.TheVariants as name
use Rattle.disk_calls.specs.Disk.{DiskState, Image, bytes_of}
use Rattle.disk_calls.specs.Frames.{Besides, OtherStreams}
use Rattle.disk_calls.proofs.FrameLemmas.{streams_then}
use Rattle.chunk_format.specs.declared.chunk.Chunk.{Chunk}
use Rattle.gated_words.specs.Files.{Damages, Files, Opens, PairsOf, second_file, seen_files}
use Rattle.gated_words.specs.InHand.{InHand}
use Rattle.gated_words.specs.Backing.{Backs, KeepsPairs}
use Rattle.segment_pairs.specs.Log.{LogOf}
use Rattle.segment_pairs.specs.Held.{segment_file, index_file, Picks, files_of, KeepsLog, OutsideLog}
use Rattle.segment_store.specs.Rows.{LogStands}
use Rattle.segment_store.specs.Recovery.{Recovers}
use Rattle.segment_store.specs.Logs.{LogInHand}
use Rattle.segment_store.specs.Stores.{StoreInHand, BackedStore, EachHolds, KeepsStore, promise_file, promise_of}
use Rattle.segment_store.proofs.Storing.{LogStays, log_left, put_leaves, outside_streams, promise_apart, second_apart, put_streams}
use Rattle.segment_store.proofs.Lasting.{same_pairs, keeps_then}
use Rattle.segment_store.proofs.Performing.{after_log, after_promise}

-- the images of a log's files, and what a read gives of the others
abbrev by_file : FileName → Image → Image → Image
by_file (name.Segment n) a b = a
by_file (name.Index n) a b = a
by_file name.Promise a b = b
by_file name.Epochs a b = b
by_file name.CatalogWords a b = b
by_file name.CatalogBytes a b = b
by_file name.PromiseTwo a b = b
by_file name.EpochsTwo a b = b
by_file name.CatalogWordsTwo a b = b

abbrev log_mixed : ℕ → DiskState → (FileId → Image) → FileId → Image
log_mixed stream s pick f = if f.stream == stream then by_file f.file (pick f) (s.seen f) else s.seen f

mixed_same : (stream : ℕ) (s : DiskState) (pick : FileId → Image) (f : FileId) → f.stream ≡ stream → log_mixed stream s pick f ≡ by_file f.file (pick f) (s.seen f)
mixed_same stream s pick f is = ap (λ (b : Bool). if b then by_file f.file (pick f) (s.seen f) else s.seen f) (eq-eqb f.stream stream is)

mixed_apart : (stream : ℕ) (s : DiskState) (pick : FileId → Image) (f : FileId) → f.stream ≢ stream → log_mixed stream s pick f ≡ s.seen f
mixed_apart stream s pick f ne = ap (λ (b : Bool). if b then by_file f.file (pick f) (s.seen f) else s.seen f) (ne_eqb f.stream stream ne)

mixed_files : (stream : ℕ) (s : DiskState) (pick : FileId → Image) (n : ℕ) → files_of stream pick n ≡ files_of stream (log_mixed stream s pick) n
mixed_files stream s pick n = λ i. (bytes_of (sym (mixed_same stream s pick (segment_file stream n) refl) i), bytes_of (sym (mixed_same stream s pick (index_file stream n) refl) i))

-- each is an image from before, where the files of the log stay
file_picked : (stream of : ℕ) (s t : DiskState) (pick : FileId → Image) → LogStays stream s t → Picks t pick → ((f : FileId) → s.images f (s.seen f)) → of ≡ stream → (file : FileName)
    → s.images (record { stream = of; file = file }) (by_file file (pick (record { stream = of; file = file })) (s.seen (record { stream = of; file = file })))
file_picked stream of s t pick stays picks reads same (name.Segment n) = subst (λ (k : ℕ). s.images (segment_file k n) (pick (segment_file k n))) (sym same) ((stays n).segment.images (pick (segment_file stream n)) (picks (segment_file stream n)))
file_picked stream of s t pick stays picks reads same (name.Index n) = subst (λ (k : ℕ). s.images (index_file k n) (pick (index_file k n))) (sym same) ((stays n).index.images (pick (index_file stream n)) (picks (index_file stream n)))
file_picked stream of s t pick stays picks reads same name.Promise = reads (record { stream = of; file = name.Promise })
file_picked stream of s t pick stays picks reads same name.Epochs = reads (record { stream = of; file = name.Epochs })
file_picked stream of s t pick stays picks reads same name.CatalogWords = reads (record { stream = of; file = name.CatalogWords })
file_picked stream of s t pick stays picks reads same name.CatalogBytes = reads (record { stream = of; file = name.CatalogBytes })
file_picked stream of s t pick stays picks reads same name.PromiseTwo = reads (record { stream = of; file = name.PromiseTwo })
file_picked stream of s t pick stays picks reads same name.EpochsTwo = reads (record { stream = of; file = name.EpochsTwo })
file_picked stream of s t pick stays picks reads same name.CatalogWordsTwo = reads (record { stream = of; file = name.CatalogWordsTwo })

pub files_while : (stream : ℕ) (s t : DiskState) → ((f : FileId) → s.images f (s.seen f)) → LogStays stream s t → (pick : FileId → Image) → Picks t pick → (before : FileId → Image) × Picks s before × (files_of stream pick ≡ files_of stream before)
files_while stream s t reads stays pick picks = (log_mixed stream s pick, mixed, (λ i n. mixed_files stream s pick n i))
  where
    mixed : Picks s (log_mixed stream s pick)
    mixed f = elim (cases_eq f.stream stream) [
      | inl same ↦ subst (λ (x : Image). s.images f x) (sym (mixed_same stream s pick f same)) (file_picked stream f.stream s t pick stays picks reads same f.file)
      | inr apart ↦ subst (λ (x : Image). s.images f x) (sym (mixed_apart stream s pick f apart)) (reads f)
    ]

keeps_log_while : (stream : ℕ) (s t : DiskState) → ((f : FileId) → s.images f (s.seen f)) → LogStays stream s t → KeepsLog stream s t
keeps_log_while stream s t reads stays pick picks =
    let found = files_while stream s t reads stays pick picks in
    (found.0, found.1, (λ F. ap (LogOf F) found.2))

-- recovery of the log leaves the promises
pub log_keeps : (stream : ℕ) (s m : DiskState) → KeepsLog stream s m → OutsideLog stream s m → KeepsStore stream s m
log_keeps stream s m keeps outside = record {
  log = keeps;
  promises = λ files left. (files, record { first = outside.images (promise_file stream) (promise_apart stream) files.first left.first; second = outside.images (second_file (promise_file stream)) (second_apart stream) files.second left.second }, same_pairs files);
}

-- and opening the promises leaves the log
pub both_keep : (stream : ℕ) (s m t : DiskState) → ((f : FileId) → m.images f (m.seen f)) → KeepsLog stream s m → OutsideLog stream s m → KeepsPairs (promise_file stream) m t → Besides (promise_file stream) (second_file (promise_file stream)) m t → KeepsStore stream s t
both_keep stream s m t reads keeps outside pairs besides =
    keeps_then stream s m t (log_keeps stream s m keeps outside) (record { log = keeps_log_while stream m t reads (put_leaves stream m t besides); promises = pairs })

pub both_streams : (stream : ℕ) (s m t : DiskState) → OutsideLog stream s m → Besides (promise_file stream) (second_file (promise_file stream)) m t → OtherStreams stream s t
both_streams stream s m t outside besides = streams_then stream s m t (outside_streams stream stream s m refl outside) (put_streams stream (promise_file stream) m t refl besides)

-- what a read gives of the promises stays
pub seen_same : (stream : ℕ) (s m : DiskState) → OutsideLog stream s m → seen_files (promise_file stream) m ≡ seen_files (promise_file stream) s
seen_same stream s m outside = λ i. record { first = outside.seen (promise_file stream) (promise_apart stream) i; second = outside.seen (second_file (promise_file stream)) (second_apart stream) i }

pub back_damages : (stream place : ℕ) (s m : DiskState) → OutsideLog stream s m → Damages place (seen_files (promise_file stream) m) → Damages place (seen_files (promise_file stream) s)
back_damages stream place s m outside damages = subst (λ (f : Files). Damages place f) (seen_same stream s m outside) damages

pub back_opens : (stream : ℕ) (s m : DiskState) → OutsideLog stream s m → Opens (seen_files (promise_file stream) m) → Opens (seen_files (promise_file stream) s)
back_opens stream s m outside opens = subst Opens (seen_same stream s m outside) opens

pub on_opens : (stream : ℕ) (s m : DiskState) → OutsideLog stream s m → Opens (seen_files (promise_file stream) s) → Opens (seen_files (promise_file stream) m)
on_opens stream s m outside opens = subst Opens (sym (seen_same stream s m outside)) opens

pub pairs_same : (stream : ℕ) (s m : DiskState) → OutsideLog stream s m → PairsOf (seen_files (promise_file stream) m) ≡ PairsOf (seen_files (promise_file stream) s)
pairs_same stream s m outside = ap PairsOf (seen_same stream s m outside)

-- what was recovered is backed
pub recovered_backed : (stream member : ℕ) (log : LogInHand) (hand : InHand) (chunks given : List Chunk) (s m t : DiskState) → log.stream ≡ stream → Recovers stream log.rows chunks s m → given ≡ chunks → hand.id ≡ promise_file stream → IsTrue hand.sure → Backs hand t
    → Besides (promise_file stream) (second_file (promise_file stream)) m t → BackedStore (record { stream = stream; member = member; log = log; promises = hand }) given t
recovered_backed stream member log hand chunks given s m t same recovers is id sure backs besides = record {
  segments = recovers.segments;
  stands = record {
    of = record { log = same; promises = id };
    log = subst (λ (n : ℕ). LogStands n log.rows recovers.segments t) (sym same) (log_left stream log.rows recovers.segments m t (put_leaves stream m t besides) recovers.stands);
    promises = backs;
    sure = sure;
  };
  are = sym recovers.are ∙ sym is;
}

pub recovered_only : (store : StoreInHand) (stream promised : ℕ) (chunks : List Chunk) (t : DiskState) → store.stream ≡ stream → promise_of store ≡ promised → BackedStore store chunks t → EachHolds stream chunks promised t
recovered_only store stream promised chunks t same is backed = record { log = after_log store stream chunks t same backed; promise = after_promise store stream promised chunks t same is backed }

-- the fault of an answer is that of a call
pub err_same : {T U : Type 0} (r : Result U StoreFault) (x e : StoreFault) → IsErrAnd r (λ y. y ≡ x) → IsErrOf r e → IsErrOf {T = T} {E = StoreFault} (Err x) e
err_same (Ok u) x e from is = absurd (cc is)
err_same (Err y) x e from is = let same : y ≡ e = cc is in ap Err (sym from ∙ same)
