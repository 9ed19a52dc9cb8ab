-- A store's log and its promises stand in files of their own.
use Rattle.std.proofs.Common.{◌≡◌, ◌≢◌, ◌⊎◌, inl, inr, ℕ, ◌+◌, ◌^◌, List, [], ◌∷◌, sym, ◌∙◌, ap, subst}
use Rattle.std.specs.Prelude.{IsTrue}
use Rattle.disk_calls.specs.declared.file_id.FileId.{FileId}
use Rattle.disk_calls.specs.declared.file_id.FileName.TheVariants as name
use Rattle.disk_calls.specs.Disk.{DiskState}
use Rattle.disk_calls.specs.Frames.{FileStays, Besides, OtherStreams}
use Rattle.disk_calls.proofs.FrameLemmas.{besides_stay}
use Rattle.chunk_format.specs.declared.chunk.Chunk.{Chunk}
use Rattle.gated_words.specs.Files.{Leaves, PairsOf, second_file}
use Rattle.gated_words.specs.InHand.{InHand}
use Rattle.gated_words.specs.Backing.{Backs, MayAdd, EachHas}
use Rattle.gated_words.proofs.Hands.{held_only, stays_backs}
use Rattle.segment_pairs.specs.Held.{segment_file, index_file, Segment, all_chunks, EachLog, Held, HeldBelow, MissingFrom, OutsideLog, IsApart}
use Rattle.segment_pairs.proofs.Lifting.{missing_if, stands_if}
use Rattle.segment_pairs.proofs.Many.{log_held}
use Rattle.segment_store.specs.declared.rows.ChunkAt.{ChunkAt}
use Rattle.segment_store.specs.Rows.{LogStands}
use Rattle.segment_store.specs.Words.{word_of}
use Rattle.segment_store.specs.Stores.{promise_file, EachPromise}
use Rattle.segment_store.proofs.Wording.{word_added}

-- ---- whose files are whose

pub promise_apart : (stream : ℕ) → IsApart stream (promise_file stream)
promise_apart stream n = (
  (λ e. let f : name.Promise ≡ name.Segment n = ap (λ (x : FileId). x.file) e in absurd (cc f)),
  (λ e. let f : name.Promise ≡ name.Index n = ap (λ (x : FileId). x.file) e in absurd (cc f)),
)

pub second_apart : (stream : ℕ) → IsApart stream (second_file (promise_file stream))
second_apart stream n = (
  (λ e. let f : name.PromiseTwo ≡ name.Segment n = ap (λ (x : FileId). x.file) e in absurd (cc f)),
  (λ e. let f : name.PromiseTwo ≡ name.Index n = ap (λ (x : FileId). x.file) e in absurd (cc f)),
)

-- a change of the log leaves what is apart from it
pub outside_stay : (stream : ℕ) (f : FileId) (s t : DiskState) → OutsideLog stream s t → IsApart stream f → FileStays f s t
outside_stay stream f s t outside apart = record { seen = outside.seen f apart; images = outside.images f apart }

other_apart : (stream : ℕ) (f : FileId) → f.stream ≢ stream → IsApart stream f
other_apart stream f ne n = ((λ e. ne (ap (λ (x : FileId). x.stream) e)), (λ e. ne (ap (λ (x : FileId). x.stream) e)))

pub outside_streams : (stream of : ℕ) (s t : DiskState) → of ≡ stream → OutsideLog of s t → OtherStreams stream s t
outside_streams stream of s t same outside = subst (λ (n : ℕ). OtherStreams n s t) same (record {
  seen = λ f ne. outside.seen f (other_apart of f ne);
  images = λ f ne. outside.images f (other_apart of f ne);
})

-- a change of the promises leaves the log
promises_leave : (stream : ℕ) (f : FileId) (s t : DiskState) → Besides (promise_file stream) (second_file (promise_file stream)) s t → (f ≢ promise_file stream) → (f ≢ second_file (promise_file stream)) → FileStays f s t
promises_leave stream f s t besides one two = besides_stay f (promise_file stream) (second_file (promise_file stream)) s t one two besides

pub segment_left : (stream n : ℕ) (s t : DiskState) → Besides (promise_file stream) (second_file (promise_file stream)) s t → FileStays (segment_file stream n) s t
segment_left stream n s t besides = promises_leave stream (segment_file stream n) s t besides (λ e. (promise_apart stream n).0 (sym e)) (λ e. (second_apart stream n).0 (sym e))

pub index_left : (stream n : ℕ) (s t : DiskState) → Besides (promise_file stream) (second_file (promise_file stream)) s t → FileStays (index_file stream n) s t
index_left stream n s t besides = promises_leave stream (index_file stream n) s t besides (λ e. (promise_apart stream n).1 (sym e)) (λ e. (second_apart stream n).1 (sym e))

-- ---- the log

-- segments whose files stay are held
pub record PairStays (stream n : ℕ) (s t : DiskState) : Type 0 where
  pub segment : FileStays (segment_file stream n) s t
  pub index : FileStays (index_file stream n) s t

abbrev pub LogStays : ℕ → DiskState → DiskState → Type 0
LogStays stream s t = (n : ℕ) → PairStays stream n s t

missing_left : (stream low top : ℕ) (s t : DiskState) → LogStays stream s t → MissingFrom stream low top s → MissingFrom stream low top t
missing_left stream low top s t stays missing n ge lt = missing_if stream n s t (stays n).segment (stays n).index (missing n ge lt)

pub held_left : (stream top : ℕ) (segments : List Segment) (s t : DiskState) → LogStays stream s t → HeldBelow stream top segments s → HeldBelow stream top segments t
held_left stream top [] s t stays missing = missing_left stream 0 top s t stays missing
held_left stream top (x ∷ older) s t stays held = record {
  under = held.under;
  follows = held.follows;
  stands = stands_if stream x s t (stays x.number).segment (stays x.number).index held.stands;
  above = missing_left stream (x.number + 1) top s t stays held.above;
  below = held_left stream x.number older s t stays held.below;
}

pub log_left : (stream : ℕ) (rows : List ChunkAt) (segments : List Segment) (s t : DiskState) → LogStays stream s t → LogStands stream rows segments s → LogStands stream rows segments t
log_left stream rows segments s t stays stands = record { held = held_left stream (2 ^ 64) segments s t stays stands.held; filled = stands.filled; are = stands.are }

pub put_leaves : (stream : ℕ) (s t : DiskState) → Besides (promise_file stream) (second_file (promise_file stream)) s t → LogStays stream s t
put_leaves stream s t besides n = record { segment = segment_left stream n s t besides; index = index_left stream n s t besides }

-- held segments are the log in each image
pub held_each : (stream : ℕ) (segments : List Segment) (chunks : List Chunk) (s : DiskState) → Held stream segments s → all_chunks segments ≡ chunks → EachLog stream (λ log. log ≡ chunks) s
held_each stream segments chunks s held are F pick picks = log_held F stream segments s pick held picks ∙ are

-- ---- the promises

pub promises_left : (stream : ℕ) (hand : InHand) (s t : DiskState) → OutsideLog stream s t → hand.id ≡ promise_file stream → Backs hand s → Backs hand t
promises_left stream hand s t outside is backs = stays_backs hand s t
    (subst (λ (f : FileId). FileStays f s t) (sym is) (outside_stay stream (promise_file stream) s t outside (promise_apart stream)))
    (subst (λ (f : FileId). FileStays (second_file f) s t) (sym is) (outside_stay stream (second_file (promise_file stream)) s t outside (second_apart stream)))
    backs

pairs_each : (id : FileId) (hand : InHand) (s : DiskState) → hand.id ≡ id → Backs hand s → IsTrue hand.sure → EachHas id hand.pairs s
pairs_each id hand s is backs sure = subst (λ (f : FileId). EachHas f hand.pairs s) is (held_only hand.id hand.pairs s (backs.held sure))

-- the promise in each image is that of sure pairs
pub promise_each : (stream : ℕ) (hand : InHand) (s : DiskState) → hand.id ≡ promise_file stream → Backs hand s → IsTrue hand.sure → EachPromise stream (λ word. word ≡ word_of stream hand.pairs) s
promise_each stream hand s is backs sure files left = ap (λ (pairs : List (ℕ × ℕ)). word_of stream pairs) (pairs_each (promise_file stream) hand s is backs sure files left)

-- what a put may leave
pub promise_between : (stream epoch : ℕ) (hand : InHand) (s t : DiskState) → hand.id ≡ promise_file stream → Backs hand s → IsTrue hand.sure → MayAdd hand.id (stream, epoch) s t
    → EachPromise stream (λ word. (word ≡ word_of stream hand.pairs) ⊎ (word ≡ epoch)) t
promise_between stream epoch hand s t is backs sure may files left =
    let there : Leaves hand.id t files = subst (λ (f : FileId). Leaves f t files) (sym is) left in
    let (before, left_before, most) = may files there in
    let same : PairsOf before ≡ hand.pairs = held_only hand.id hand.pairs s (backs.held sure) before left_before in
    elim most.pairs [
      | inl old ↦ inl (ap (λ (pairs : List (ℕ × ℕ)). word_of stream pairs) (old ∙ same))
      | inr new ↦ inr (ap (λ (pairs : List (ℕ × ℕ)). word_of stream pairs) new ∙ word_added stream epoch (PairsOf before))
    ]

-- the files that may change are of the stream
pub put_streams : (stream : ℕ) (id : FileId) (s t : DiskState) → id ≡ promise_file stream → Besides id (second_file id) s t → OtherStreams stream s t
put_streams stream id s t is besides = record {
  seen = λ f ne. here.seen f (apart f ne).0 (apart f ne).1;
  images = λ f ne. here.images f (apart f ne).0 (apart f ne).1;
}
  where
    here : Besides (promise_file stream) (second_file (promise_file stream)) s t
    here = subst (λ (f : FileId). Besides f (second_file f) s t) is besides

    apart : (f : FileId) → f.stream ≢ stream → (f ≢ promise_file stream) × (f ≢ second_file (promise_file stream))
    apart f ne = ((λ e. ne (ap (λ (x : FileId). x.stream) e)), (λ e. ne (ap (λ (x : FileId). x.stream) e)))
