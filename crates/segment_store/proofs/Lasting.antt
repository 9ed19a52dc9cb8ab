-- What a disk that stands behind a store keeps.
use Rattle.std.proofs.Common.{◌≡◌, ◌≢◌, inl, inr, ℕ, List, [], length, Bool, refl, sym, ◌∙◌, ap, subst, if◌then◌else◌, ◌==◌}
use Rattle.std.proofs.Common.{arith}
use Rattle.std.proofs.lemmas.Bool.{cases_eq, eq-eqb, ne_eqb}
use Rattle.std.proofs.lemmas.List.{append-nil, take_all}
use Rattle.disk_calls.specs.declared.file_id.FileId.{FileId}
use Rattle.disk_calls.specs.Disk.{DiskState, Image, bytes_of, LeftByCrash, Looks}
use Rattle.disk_calls.specs.Frames.{FileStays, OtherStreams}
use Rattle.disk_calls.proofs.FrameLemmas.{looks_stay, streams_stay, crash_stay}
use Rattle.chunk_format.specs.declared.chunk.Chunk.{Chunk}
use Rattle.chunk_format.specs.Logs.{GoesOn, end_of}
use Rattle.gated_words.specs.Files.{Files, Leaves, second_file, seen_files}
use Rattle.gated_words.specs.Backing.{SamePairs}
use Rattle.gated_words.proofs.Hands.{stays_backs}
use Rattle.segment_pairs.specs.Log.{Finder, LogOf}
use Rattle.segment_pairs.specs.Held.{segment_file, index_file, Segment, all_chunks, Picks, files_of, EachLog}
use Rattle.epoch_coordinator.specs.declared.message.Job.{Job}
use Rattle.epoch_coordinator.specs.declared.message.Job.TheVariants.{Write, Cut, Promise, Epoch}
use Rattle.segment_store.specs.declared.rows.ChunkAt.{ChunkAt}
use Rattle.segment_store.specs.Rows.{rows_of, LogStands, FrontEnds}
use Rattle.segment_store.specs.Words.{word_of}
use Rattle.segment_store.specs.Stores.{StoreInHand, StoreStands, BackedStore, EachHolds, KeepsStore, EndsRise, Continues, ContinuesLog, promise_file, promise_of}
use Rattle.segment_store.proofs.Storing.{log_left, held_each, promise_each}
use Rattle.segment_store.proofs.Halving.{ends_rise, front_ends, ends_front}
use Rattle.segment_store.proofs.Table.{length-rows}
use Rattle.segment_store.proofs.Cutting.{front_end}

-- ---- a store whose files stay

abbrev FilesStay : ℕ → DiskState → DiskState → Type 0
FilesStay stream s t = (f : FileId) → f.stream ≡ stream → FileStays f s t

stands_left : (store : StoreInHand) (segments : List Segment) (s t : DiskState) → FilesStay store.stream s t → StoreStands store segments s → StoreStands store segments t
stands_left store segments s t stays stands = record {
  of = stands.of;
  log = log_left store.log.stream store.log.rows segments s t (λ n. record { segment = stays (segment_file store.log.stream n) stands.of.log; index = stays (index_file store.log.stream n) stands.of.log }) stands.log;
  promises = stays_backs store.promises s t (stays store.promises.id id) (stays (second_file store.promises.id) id) stands.promises;
  sure = stands.sure;
}
  where
    id : store.promises.id.stream ≡ store.stream
    id = ap (λ (f : FileId). f.stream) stands.of.promises

backed_left : (store : StoreInHand) (chunks : List Chunk) (s t : DiskState) → FilesStay store.stream s t → BackedStore store chunks s → BackedStore store chunks t
backed_left store chunks s t stays backed = record { segments = backed.segments; stands = stands_left store backed.segments s t stays backed.stands; are = backed.are }

pub backed_looks : (store : StoreInHand) (chunks : List Chunk) (s t : DiskState) → Looks s t → BackedStore store chunks s → BackedStore store chunks t
backed_looks store chunks s t looks backed = backed_left store chunks s t (λ f is. looks_stay f s t looks) backed

other : (a b c : ℕ) → a ≡ b → b ≢ c → a ≢ c
other a b c same ne e = ne (sym same ∙ e)

pub backed_streams : (store : StoreInHand) (chunks : List Chunk) (stream : ℕ) (s t : DiskState) → store.stream ≢ stream → OtherStreams stream s t → BackedStore store chunks s → BackedStore store chunks t
backed_streams store chunks stream s t ne others backed = backed_left store chunks s t (λ f is. streams_stay f stream s t (other f.stream store.stream stream is ne) others) backed

pub backed_crash : (store : StoreInHand) (chunks : List Chunk) (stream : ℕ) (s t : DiskState) → store.stream ≢ stream → LeftByCrash stream s t → BackedStore store chunks s → BackedStore store chunks t
backed_crash store chunks stream s t ne crash backed = backed_left store chunks s t (λ f is. crash_stay f stream s t (other f.stream store.stream stream is ne) crash) backed

pub backed_holds : (store : StoreInHand) (chunks : List Chunk) (s : DiskState) → BackedStore store chunks s → EachHolds store.stream chunks (promise_of store) s
backed_holds store chunks s backed = record {
  log = subst (λ (n : ℕ). EachLog n (λ log. log ≡ chunks) s) backed.stands.of.log (held_each store.log.stream backed.segments chunks s backed.stands.log.held backed.are);
  promise = promise_each store.stream store.promises s backed.stands.of.promises backed.stands.promises backed.stands.sure;
}

-- ---- images of before

-- no image comes
abbrev pub ImagesOf : DiskState → DiskState → Type 0
ImagesOf s t = (f : FileId) (c : Image) → t.images f c → s.images f c

pub same_pairs : (files : Files) → SamePairs files files
same_pairs files = record { pairs = refl; opens = λ opens. opens }

keeps_images : (stream : ℕ) (s t : DiskState) → ImagesOf s t → KeepsStore stream s t
keeps_images stream s t back = record {
  log = λ pick picks. (pick, (λ f. back f (pick f) (picks f)), (λ F. refl));
  promises = λ files left. (files, record { first = back (promise_file stream) files.first left.first; second = back (second_file (promise_file stream)) files.second left.second }, same_pairs files);
}

pub keeps_looks : (stream : ℕ) (s t : DiskState) → Looks s t → KeepsStore stream s t
keeps_looks stream s t looks = keeps_images stream s t looks.images

pub crash_images : (of : ℕ) (s t : DiskState) → LeftByCrash of s t → ImagesOf s t
crash_images of s t crash f c left = elim (cases_eq f.stream of) [
  | inl same ↦ let here = crash.own f same in subst (λ (x : Image). s.images f x) (sym (here.1 c left)) here.0
  | inr ne ↦ (crash.others f ne).1 c left
]

pub keeps_crash : (stream of : ℕ) (s t : DiskState) → LeftByCrash of s t → KeepsStore stream s t
keeps_crash stream of s t crash = keeps_images stream s t (crash_images of s t crash)

-- the images of one stream, and what a read gives of the others
abbrev mixed : ℕ → DiskState → (FileId → Image) → FileId → Image
mixed stream s pick f = if f.stream == stream then pick f else s.seen f

mixed_own : (stream : ℕ) (s : DiskState) (pick : FileId → Image) (f : FileId) → f.stream ≡ stream → mixed stream s pick f ≡ pick f
mixed_own stream s pick f is = ap (λ (b : Bool). if b then pick f else s.seen f) (eq-eqb f.stream stream is)

mixed_other : (stream : ℕ) (s : DiskState) (pick : FileId → Image) (f : FileId) → f.stream ≢ stream → mixed stream s pick f ≡ s.seen f
mixed_other stream s pick f ne = ap (λ (b : Bool). if b then pick f else s.seen f) (ne_eqb f.stream stream ne)

mixed_files : (stream : ℕ) (s : DiskState) (pick : FileId → Image) (n : ℕ) → files_of stream pick n ≡ files_of stream (mixed stream s pick) n
mixed_files stream s pick n = λ i. (bytes_of (sym (mixed_own stream s pick (segment_file stream n) refl) i), bytes_of (sym (mixed_own stream s pick (index_file stream n) refl) i))

mixed_log : (F : Finder) (stream : ℕ) (s : DiskState) (pick : FileId → Image) → LogOf F (files_of stream pick) ≡ LogOf F (files_of stream (mixed stream s pick))
mixed_log F stream s pick = λ i. LogOf F (λ n. mixed_files stream s pick n i)

pub keeps_streams : (stream of : ℕ) (s t : DiskState) → ((f : FileId) → s.images f (s.seen f)) → stream ≢ of → OtherStreams of s t → KeepsStore stream s t
keeps_streams stream of s t reads ne others = record {
  log = λ pick picks. (mixed stream s pick, mixed_picks pick picks, (λ F. mixed_log F stream s pick));
  promises = λ files left. (files, record { first = others.images (promise_file stream) ne files.first left.first; second = others.images (second_file (promise_file stream)) ne files.second left.second }, same_pairs files);
}
  where
    mixed_picks : (pick : FileId → Image) → Picks t pick → Picks s (mixed stream s pick)
    mixed_picks pick picks f = elim (cases_eq f.stream stream) [
      | inl same ↦ subst (λ (x : Image). s.images f x) (sym (mixed_own stream s pick f same)) (others.images f (other f.stream stream of same ne) (pick f) (picks f))
      | inr apart ↦ subst (λ (x : Image). s.images f x) (sym (mixed_other stream s pick f apart)) (reads f)
    ]

pub keeps_then : (stream : ℕ) (a b c : DiskState) → KeepsStore stream a b → KeepsStore stream b c → KeepsStore stream a c
keeps_then stream a b c one two = record {
  log = λ pick picks.
      let (middle, there, same) = two.log pick picks in
      let (before, here, was) = one.log middle there in
      (before, here, (λ F. same F ∙ was F));
  promises = λ files left.
      let (middle, there, same) = two.promises files left in
      let (before, here, was) = one.promises middle there in
      (before, here, record { pairs = same.pairs ∙ was.pairs; opens = λ opens. same.opens (was.opens opens) });
}

pub keeps_holds : (stream : ℕ) (chunks : List Chunk) (promise : ℕ) (s t : DiskState) → KeepsStore stream s t → EachHolds stream chunks promise s → EachHolds stream chunks promise t
keeps_holds stream chunks promise s t keeps holds = record {
  log = λ F pick picks. let (before, here, same) = keeps.log pick picks in same F ∙ holds.log F before here;
  promise = λ files left. let (before, here, same) = keeps.promises files left in ap (λ (pairs : List (ℕ × ℕ)). word_of stream pairs) same.pairs ∙ holds.promise before here;
}

pub one_log : (F : Finder) (stream : ℕ) (a b : List Chunk) (p q : ℕ) (s : DiskState) → ((f : FileId) → s.images f (s.seen f)) → EachHolds stream a p s → EachHolds stream b q s → a ≡ b
one_log F stream a b p q s reads one two = sym (one.log F s.seen reads) ∙ two.log F s.seen reads

pub one_promise : (stream : ℕ) (a b : List Chunk) (p q : ℕ) (s : DiskState) → ((f : FileId) → s.images f (s.seen f)) → EachHolds stream a p s → EachHolds stream b q s → p ≡ q
one_promise stream a b p q s reads one two =
    let files = seen_files (promise_file stream) s in
    let left : Leaves (promise_file stream) s files = record { first = reads (promise_file stream); second = reads (second_file (promise_file stream)) } in
    sym (one.promise files left) ∙ two.promise files left

-- ---- jobs

pub backed_rise : (store : StoreInHand) (chunks : List Chunk) (s : DiskState) → BackedStore store chunks s → EndsRise store.log.rows
backed_rise store chunks s backed = ends_rise store.log.stream store.log.rows backed.segments s backed.stands.log

all_end : (stream end : ℕ) (rows : List ChunkAt) (segments : List Segment) (s : DiskState) → LogStands stream rows segments s → FrontEnds rows (length rows) end → end ≡ end_of (all_chunks segments)
all_end stream end rows segments s stands ends =
    let here : FrontEnds (rows_of segments) (length (rows_of segments)) end = subst (λ (l : List ChunkAt). FrontEnds l (length l) end) stands.are ends in
    sym (ap end_of (sym (take_all (length (rows_of segments)) (all_chunks segments) (omega (arith, length-rows segments)))) ∙ front_end segments (length (rows_of segments)) end here)

end_all : (stream end : ℕ) (rows : List ChunkAt) (segments : List Segment) (s : DiskState) → LogStands stream rows segments s → end ≡ end_of (all_chunks segments) → FrontEnds rows (length rows) end
end_all stream end rows segments s stands is =
    let size : length rows ≡ length (all_chunks segments) = ap length stands.are ∙ length-rows segments in
    subst (λ (k : ℕ). FrontEnds rows k end) (sym size) (ends_front stream end rows segments s stands (all_chunks segments) ([], sym (append-nil (all_chunks segments))) (sym is))

pub continues_log : (store : StoreInHand) (chunks : List Chunk) (s : DiskState) (job : Job) → BackedStore store chunks s → Continues store job → ContinuesLog chunks job
continues_log store chunks s (Write c) backed go = all_end store.log.stream c.first store.log.rows backed.segments s backed.stands.log go ∙ ap end_of backed.are
continues_log store chunks s (Cut end) backed go = subst (λ (l : List Chunk). (front : List Chunk) × GoesOn front l × (end_of front ≡ end)) backed.are (front_ends store.log.stream go.0 end store.log.rows backed.segments s backed.stands.log go.1)
continues_log store chunks s (Promise epoch) backed go = go
continues_log store chunks s (Epoch epoch) backed go = go

pub continues_store : (store : StoreInHand) (chunks : List Chunk) (s : DiskState) (job : Job) → BackedStore store chunks s → ContinuesLog chunks job → Continues store job
continues_store store chunks s (Write c) backed go = end_all store.log.stream c.first store.log.rows backed.segments s backed.stands.log (go ∙ ap end_of (sym backed.are))
continues_store store chunks s (Cut end) backed (front, goes, is) = (length front, ends_front store.log.stream end store.log.rows backed.segments s backed.stands.log front (subst (λ (l : List Chunk). GoesOn front l) (sym backed.are) goes) is)
continues_store store chunks s (Promise epoch) backed go = go
continues_store store chunks s (Epoch epoch) backed go = go
