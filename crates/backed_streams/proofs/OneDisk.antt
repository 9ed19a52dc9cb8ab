-- The disk of one member, and that of the coordinator.
use Rattle.std.proofs.Common.{◌≡◌, ◌≢◌, inl, inr, ℕ, List, [], ◌∷◌, ◌++◌, Bool, Some, None, refl, sym, ap, subst, ◌∙◌, ◌==◌, if◌then◌else◌}
use Rattle.std.specs.Prelude.{IsTrue}
use Rattle.std.proofs.lemmas.Bool.{ne_eqb}
use Rattle.disk_calls.specs.declared.file_id.FileId.{FileId}
use Rattle.disk_calls.specs.Disk.{DiskState}
use Rattle.disk_calls.specs.Frames.{FileStays}
use Rattle.chunk_format.specs.declared.chunk.Chunk.{Chunk}
use Rattle.gated_words.specs.Files.{Files, Leaves, PairsOf, second_file, seen_files}
use Rattle.gated_words.specs.InHand.{InHand}
use Rattle.gated_words.specs.Backing.{Backs, EachHas, KeepsPairs, MayAdd}
use Rattle.gated_words.proofs.Hands.{held_only}
use Rattle.segment_pairs.specs.Held.{segment_file, index_file, EachLog, KeepsLog}
use Rattle.chunk_search.proofs.Finders.{chunk_finder}
use Rattle.epoch_coordinator.specs.Members.{MemberState}
use Rattle.epoch_coordinator.specs.MemberSteps.{restarted}
use Rattle.epoch_coordinator.specs.Coordinators.{CoordinatorState}
use Rattle.replication_laws.specs.Cluster.{Holds, MayPromise}
use Rattle.replication_laws.specs.Events.{MayBegin}
use Rattle.segment_store.specs.Recoverable.{NoFiles}
use Rattle.segment_store.specs.Words.{word_from, word_of, epochs_file, EachWord}
use Rattle.segment_store.specs.Stores.{StoreInHand, EachHolds, KeepsStore, promise_file}
use Rattle.segment_store.proofs.Storing.{held_each}
use Rattle.segment_store.proofs.Wording.{word_added}
use Rattle.segment_store.proofs.Performing.{after_log, after_promise}
use Rattle.segment_store.proofs.Lasting.{ImagesOf}
use Rattle.backed_streams.specs.Backing.{BackedMember, BackedEpoch, IsInHand}

-- ---- images of before

pub log_keeps : (stream : ℕ) (P : List Chunk → Type 0) (s t : DiskState) → KeepsLog stream s t → EachLog stream P s → EachLog stream P t
log_keeps stream P s t keeps each F pick picks = let (before, here, same) = keeps pick picks in subst P (sym (same F)) (each F before here)

pub words_keep : (id : FileId) (stream : ℕ) (P : ℕ → Type 0) (s t : DiskState) → KeepsPairs id s t → EachWord id stream P s → EachWord id stream P t
words_keep id stream P s t keeps each files left = let (before, here, same) = keeps files left in subst (λ (pairs : List (ℕ × ℕ)). P (word_of stream pairs)) (sym same.pairs) (each before here)

pub words_images : (id : FileId) (stream : ℕ) (P : ℕ → Type 0) (s t : DiskState) → ImagesOf s t → EachWord id stream P s → EachWord id stream P t
words_images id stream P s t back each files left = each files (record { first = back id files.first left.first; second = back (second_file id) files.second left.second })

pub words_stay : (id : FileId) (stream : ℕ) (P : ℕ → Type 0) (s t : DiskState) → FileStays id s t → FileStays (second_file id) s t → EachWord id stream P s → EachWord id stream P t
words_stay id stream P s t one two each files left = each files (record { first = one.images files.first left.first; second = two.images files.second left.second })

-- ---- one member

pub member_keeps : (stream : ℕ) (m : MemberState) (s t : DiskState) → KeepsStore stream s t → BackedMember stream m s → BackedMember stream m t
member_keeps stream m s t keeps b = record { log = log_keeps stream (Holds m) s t keeps.log b.log; promise = words_keep (promise_file stream) stream (MayPromise m) s t keeps.promises b.promise }

pub member_holds : (stream : ℕ) (m : MemberState) (s : DiskState) → Holds m m.log → EachHolds stream m.log m.promise s → BackedMember stream m s
member_holds stream m s own holds = record {
  log = λ F pick picks. subst (λ (l : List Chunk). Holds m l) (sym (holds.log F pick picks)) own;
  promise = λ files left. inl (holds.promise files left);
}

pub in_hand_holds : (stream : ℕ) (m : MemberState) (store : StoreInHand) (s : DiskState) → IsInHand stream m store s → EachHolds stream m.log m.promise s
in_hand_holds stream m store s h = record { log = after_log store stream m.log s h.stream_is h.backed; promise = after_promise store stream m.promise m.log s h.stream_is h.promised h.backed }

pub in_hand_backed : (stream : ℕ) (m : MemberState) (store : StoreInHand) (s : DiskState) → Holds m m.log → IsInHand stream m store s → BackedMember stream m s
in_hand_backed stream m store s own h = member_holds stream m s own (in_hand_holds stream m store s h)

-- ---- a disk without files

no_word : (stream : ℕ) (files : Files) → files.first ≡ None → files.second ≡ None → word_of stream (PairsOf files) ≡ 0
no_word stream files one two = ap (λ (f : Files). word_of stream (PairsOf f)) (λ i. record { first = one i; second = two i })

pub no_words : (id : FileId) (stream : ℕ) (s : DiskState) → NoFiles id.stream s → EachWord id stream (λ word. word ≡ 0) s
no_words id stream s none files left = no_word stream files ((none id refl).only files.first left.first) ((none (second_file id) refl).only files.second left.second)

pub none_holds : (stream : ℕ) (s : DiskState) → NoFiles stream s → EachHolds stream [] 0 s
none_holds stream s none = record {
  log = held_each stream [] [] s (λ i ge less. record { segment = (none (segment_file stream i) refl).seen; index = (none (index_file stream i) refl).only }) refl;
  promise = no_words (promise_file stream) stream s none;
}

-- ---- a member that is recovered

seen_leaves : (id : FileId) (s : DiskState) → ((f : FileId) → s.images f (s.seen f)) → Leaves id s (seen_files id s)
seen_leaves id s reads = record { first = reads id; second = reads (second_file id) }

pub recovered_may : (stream promise : ℕ) (chunks : List Chunk) (m : MemberState) (s t : DiskState) → ((f : FileId) → t.images f (t.seen f)) → KeepsStore stream s t → EachHolds stream chunks promise t → BackedMember stream m s → Holds m chunks × MayPromise m promise
recovered_may stream promise chunks m s t reads keeps only b =
    let after = member_keeps stream m s t keeps b in
    let files = seen_files (promise_file stream) t in
    let left = seen_leaves (promise_file stream) t reads in (
      subst (λ (l : List Chunk). Holds m l) (only.log chunk_finder t.seen reads) (after.log chunk_finder t.seen reads),
      subst (MayPromise m) (only.promise files left) (after.promise files left),
    )

pub restarted_backed : (stream members k promise : ℕ) (chunks : List Chunk) (t : DiskState) → EachHolds stream chunks promise t → BackedMember stream (restarted members k promise chunks) t
restarted_backed stream members k promise chunks t only = member_holds stream (restarted members k promise chunks) t refl only

-- ---- the epoch of a stream

word_other : (stream other epoch word : ℕ) (pairs : List (ℕ × ℕ)) → stream ≢ other → word_from other word (pairs ++ (stream, epoch) ∷ []) ≡ word_from other word pairs
word_other stream other epoch word [] ne = ap (λ (b : Bool). if b then epoch else word) (ne_eqb stream other ne)
word_other stream other epoch word (p ∷ pairs) ne = word_other stream other epoch (if p.0 == other then p.1 else word) pairs ne

pub epoch_left : (stream epoch : ℕ) (c : CoordinatorState) (s t : DiskState) → c.job ≡ Some epoch → MayAdd epochs_file (stream, epoch) s t → BackedEpoch stream c s → BackedEpoch stream c t
epoch_left stream epoch c s t job may b files left =
    let (before, here, most) = may files left in
    elim most.pairs [
      | inl same ↦ subst (λ (pairs : List (ℕ × ℕ)). MayBegin c (word_of stream pairs)) (sym same) (b before here)
      | inr added ↦ inr (job ∙ ap (λ (e : ℕ). Some e) (sym (ap (λ (pairs : List (ℕ × ℕ)). word_of stream pairs) added ∙ word_added stream epoch (PairsOf before))))
    ]

-- an epoch of another stream
pub epoch_apart : (stream other epoch : ℕ) (P : ℕ → Type 0) (s t : DiskState) → stream ≢ other → MayAdd epochs_file (stream, epoch) s t → EachWord epochs_file other P s → EachWord epochs_file other P t
epoch_apart stream other epoch P s t ne may each files left =
    let (before, here, most) = may files left in
    elim most.pairs [
      | inl same ↦ subst (λ (pairs : List (ℕ × ℕ)). P (word_of other pairs)) (sym same) (each before here)
      | inr added ↦ subst P (sym (ap (λ (pairs : List (ℕ × ℕ)). word_of other pairs) added ∙ word_other stream other epoch 0 (PairsOf before) ne)) (each before here)
    ]

pub epoch_is : (stream epoch : ℕ) (c : CoordinatorState) (t : DiskState) → epoch ≡ c.epoch → EachWord epochs_file stream (λ word. word ≡ epoch) t → BackedEpoch stream c t
epoch_is stream epoch c t is only files left = inl (only files left ∙ is)

pub epoch_sure : (stream : ℕ) (hand : InHand) (s : DiskState) → hand.id ≡ epochs_file → IsTrue hand.sure → Backs hand s → EachWord epochs_file stream (λ word. word ≡ word_of stream hand.pairs) s
epoch_sure stream hand s is sure backs files left =
    ap (λ (pairs : List (ℕ × ℕ)). word_of stream pairs) ((subst (λ (f : FileId). EachHas f hand.pairs s) is (held_only hand.id hand.pairs s (backs.held sure))) files left)

pub epoch_found : (stream epoch : ℕ) (c : CoordinatorState) (s t : DiskState) → ((f : FileId) → t.images f (t.seen f)) → KeepsPairs epochs_file s t → EachWord epochs_file stream (λ word. word ≡ epoch) t → BackedEpoch stream c s → MayBegin c epoch
epoch_found stream epoch c s t reads keeps only b =
    let after : BackedEpoch stream c t = words_keep epochs_file stream (MayBegin c) s t keeps b in
    let files = seen_files epochs_file t in
    let left = seen_leaves epochs_file t reads in
    subst (MayBegin c) (only files left) (after files left)
