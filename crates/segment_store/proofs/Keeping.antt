-- Files that recovery takes, while calls and crashes change them.
use Rattle.std.proofs.Common.{◌≡◌, ◌≢◌, inl, inr, ℕ, ◌+◌, ◌*◌, ◌≤◌, ◌<◌, ◌^◌, List, [], ◌∷◌, length, drop, get_or, slice_get, Some, None, refl, sym, ◌∙◌, ap, subst, arith}
use Rattle.std.proofs.lemmas.Bool.{cases_eq, cases_lt}
use Rattle.disk_calls.specs.declared.file_id.FileId.{FileId}
use Rattle.disk_calls.specs.Disk.{DiskState, Image, bytes_of, LeftByCrash, Looks}
use Rattle.disk_calls.specs.Frames.{Besides, FileStays, OtherStreams}
use Rattle.disk_calls.proofs.FrameLemmas.{streams_stay}
use Rattle.chunk_format.specs.declared.chunk.Chunk.{Chunk}
use Rattle.chunk_format.specs.Logs.{end_of}
use Rattle.gated_words.specs.Files.{Files, Leaves, Opens, second_file, seen_files}
use Rattle.gated_words.specs.InHand.{InHand}
use Rattle.gated_words.specs.Backing.{Backs, EachBoth, KeepsPairs}
use Rattle.segment_pairs.specs.Log.{Finder, Pair, pair_log}
use Rattle.segment_pairs.specs.Held.{segment_file, index_file, Segment, all_chunks, Picks, files_of, Missing, MissingFrom, HeldBelow, BesidesPair, CanBegin, CanCut, GoneOrBefore, OutsideLog}
use Rattle.segment_pairs.specs.Left.{IsLeft, EachLeft}
use Rattle.segment_pairs.proofs.Making.{none_short}
use Rattle.segment_pairs.proofs.Leaving.{stands_left, missing_left, left_stays}
use Rattle.segment_pairs.proofs.Lifting.{begin_next, segment_stays, index_stays, held_stays, missing_from_stays}
use Rattle.segment_store.specs.declared.rows.ChunkAt.{ChunkAt}
use Rattle.segment_store.specs.Rows.{CanTrim, IsBehind, IsKept, LogStands}
use Rattle.segment_store.specs.Stores.{StoreInHand, StoreStands, BackedStore, promise_file}
use Rattle.segment_store.specs.Recovery.{AreChunks, CanRecover, Counts, HasRecords, IsDamaged, IsTooMuch, ReachedLast, log_below}
use Rattle.segment_store.specs.Recoverable.{InLine, LogRecoverable, NoFiles, Recoverable}
use Rattle.segment_store.proofs.Storing.{LogStays, outside_stay, promise_apart, second_apart, put_leaves}
use Rattle.segment_store.proofs.Cutting.{kept_one}
use Rattle.segment_store.proofs.Trimming.{behind_by, trim_at, trim_requires}
use Rattle.segment_store.proofs.Performing.{log_stays, promise_stays}
use Rattle.segment_store.proofs.Lasting.{ImagesOf, crash_images}
use Rattle.segment_store.proofs.Returning.{files_while}
use Rattle.segment_store.proofs.RecoveryGhosts.{looks_besides, mixed, mixed_here, mixed_index, mixed_picks, mixed_segment, picks_before}
use Rattle.segment_store.proofs.RecoveryNumbers.{ClearsTo, next_number, rising_at, sift_short}
use Rattle.segment_store.proofs.RecoveryDamage.{SamePair, below_pairs, counts_same, missing_counts, more, same_back, tail_begins, tail_sound}

-- ---- segments that stand, and a last one

left_below : (stream top : ℕ) (older : List Segment) (s : DiskState) → (older ≡ [] → top ≡ 0) → HeldBelow stream top older s → (m : ℕ) → m < top → EachLeft stream m s
left_below stream top [] s first held m lt = absurd (omega (arith, lt, first refl))
left_below stream top (x ∷ older) s first held m lt = elim (cases_lt m x.number) [
  | inl less ↦ left_below stream x.number older s (λ none. held.follows ∙ ap (λ (l : List Segment). end_of (all_chunks l)) none) held.below m less
  | inr ge ↦ elim (cases_eq m x.number) [
    | inl is ↦ subst (λ (k : ℕ). EachLeft stream k s) (sym is) (stands_left stream x s held.stands)
    | inr ne ↦ missing_left stream m s (omega (arith, more m x.number ge ne)) (held.above m (more m x.number ge ne) lt)
  ]
]

pub tail_recoverable : (stream n : ℕ) (older : List Segment) (s : DiskState) → n < 2 ^ 64 → n ≡ end_of (all_chunks older) → HeldBelow stream n older s → MissingFrom stream (n + 1) (2 ^ 64) s → EachLeft stream n s → LogRecoverable stream s
tail_recoverable stream n older s lt follows below above left = record { left = each; in_line = line }
  where
    each : (m : ℕ) → m < 2 ^ 64 → EachLeft stream m s
    each m under = elim (cases_lt m n) [
      | inl less ↦ left_below stream n older s (λ none. follows ∙ ap (λ (l : List Segment). end_of (all_chunks l)) none) below m less
      | inr ge ↦ elim (cases_eq m n) [
        | inl is ↦ subst (λ (k : ℕ). EachLeft stream k s) (sym is) left
        | inr ne ↦ missing_left stream m s (omega (arith, more m n ge ne)) (above m (more m n ge ne) under)
      ]
    ]

    none_above : (pick : FileId → Image) → Picks s pick → (m : ℕ) → n < m → m < 2 ^ 64 → Counts m (files_of stream pick m) → ⊥
    none_above pick picks m less under counts = missing_counts stream m s pick picks (omega (arith, less)) (above m (omega (arith, less)) under) counts

    line : (F : Finder) (pick : FileId → Image) → Picks s pick → InLine F (files_of stream pick)
    line F pick picks = record {
      begins_at = λ m under counts. elim (cases_lt m n) [
        | inl less ↦ (tail_sound F stream n older s pick picks follows below m less counts).begins_at
        | inr ge ↦ elim (cases_eq m n) [
          | inl is ↦ subst (λ (k : ℕ). k ≡ end_of (log_below F k (files_of stream pick))) (sym is) (tail_begins F stream n older s pick picks follows below)
          | inr ne ↦ absurd (none_above pick picks m (omega (arith, more m n ge ne)) under counts)
        ]
      ];
      chunks = λ m later before under counts last. elim (cases_lt m n) [
        | inl less ↦ (tail_sound F stream n older s pick picks follows below m less counts).chunks
        | inr ge ↦ absurd (none_above pick picks later (omega (arith, ge, before)) under last)
      ];
    }

-- a log that stands
pub held_recoverable : (stream : ℕ) (rows : List ChunkAt) (segments : List Segment) (s : DiskState) → LogStands stream rows segments s → LogRecoverable stream s
held_recoverable stream rows [] s stands = absurd stands.filled
held_recoverable stream rows (x ∷ older) s stands = tail_recoverable stream x.number older s stands.held.under stands.held.follows stands.held.below stands.held.above (stands_left stream x s stands.held.stands)

-- while only the files of the last number change
pub last_recoverable : (stream n : ℕ) (older : List Segment) (s t : DiskState) → n < 2 ^ 64 → n ≡ end_of (all_chunks older) → HeldBelow stream n older s → MissingFrom stream (n + 1) (2 ^ 64) s → BesidesPair stream n s t → EachLeft stream n t → LogRecoverable stream t
last_recoverable stream n older s t lt follows below above besides left =
    tail_recoverable stream n older t lt follows (held_stays stream n n older s t besides (omega arith) below) (missing_from_stays stream n (n + 1) (2 ^ 64) s t besides (omega arith) above) left

-- a chunk is added to the last segment
pub added_recoverable : (stream n : ℕ) (rows : List ChunkAt) (x : Segment) (older : List Segment) (s t : DiskState) → n ≡ x.number → LogStands stream rows (x ∷ older) s → BesidesPair stream n s t → EachLeft stream n t → LogRecoverable stream t
added_recoverable stream n rows x older s t is stands besides left =
    let held = stands.held in
    last_recoverable stream x.number older s t held.under held.follows held.below held.above (subst (λ (k : ℕ). BesidesPair stream k s t) is besides) (subst (λ (k : ℕ). EachLeft stream k t) is left)

-- a segment is begun
pub begun_recoverable : (stream n : ℕ) (x : Segment) (older : List Segment) (s t : DiskState) → n < 2 ^ 64 → CanBegin stream n (x ∷ older) s → BesidesPair stream n s t → (0 < n → EachLeft stream n t) → LogRecoverable stream t
begun_recoverable stream n x older s t lt can besides leaves =
    let next = begin_next stream n (x ∷ older) s can lt in
    last_recoverable stream n (x ∷ older) s t lt can.follows next.0 (λ i ge. next.1 i (omega (arith, ge))) besides (leaves (omega (arith, next.0.under)))

-- the first is
pub begun_first : (stream : ℕ) (s t : DiskState) → MissingFrom stream 0 (2 ^ 64) s → BesidesPair stream 0 s t → EachLeft stream 0 t → LogRecoverable stream t
begun_first stream s t missing besides left = last_recoverable stream 0 [] s t (omega arith) refl (λ i ge less. absurd (omega (arith, less))) (λ i ge. missing i (omega arith)) besides left

-- the last is removed
pub dropping_recoverable : (stream end : ℕ) (rows : List ChunkAt) (segments : List Segment) (row : ChunkAt) (s t : DiskState) → LogStands stream rows segments s → IsBehind end rows row → BesidesPair stream row.segment s t → (EachLeft stream row.segment s → EachLeft stream row.segment t) → LogRecoverable stream t
dropping_recoverable stream end rows segments row s t stands is besides leaves =
    let b = behind_by stream end 0 rows segments row s stands is in
    let last : Segment = record { number = row.segment; chunks = b.x.chunks } in
    last_recoverable stream row.segment b.older s t b.held.under b.held.follows b.held.below b.held.above besides (leaves (stands_left stream last s b.held.stands))

-- the last is cut
pub trimming_recoverable : (stream end kept other : ℕ) (rows : List ChunkAt) (x : Segment) (older : List Segment) (row : ChunkAt) (index_size : ℕ) (s t : DiskState) → CanTrim stream end kept rows x older s → IsKept end rows other → slice_get rows other ≡ Some row
    → (row.nth < 2 ^ 40 → index_size ≡ 8 + 29 * row.nth) → BesidesPair stream row.segment s t → ((cs : List Chunk) (left : ℕ) → CanCut stream row.segment cs left row.place index_size s → EachLeft stream row.segment t) → LogRecoverable stream t
trimming_recoverable stream end kept other rows x older row index_size s t can is get index besides leaves =
    let one = kept_one stream end kept other rows (x ∷ older) s can.stands can.ends is in
    let at = trim_at stream end kept rows x older row s can (ap (λ (k : ℕ). slice_get rows k) (sym one) ∙ get) in
    let (cs, left, cut) = trim_requires stream end kept other rows x older row index_size s can is get index in
    added_recoverable stream row.segment rows x older s t at.segment can.stands besides (leaves cs left cut)

-- ---- while images only go

pub images_recoverable : (stream : ℕ) (s t : DiskState) → ImagesOf s t → LogRecoverable stream s → LogRecoverable stream t
images_recoverable stream s t back r = record {
  left = λ n under a b left_a left_b. r.left n under a b (back (segment_file stream n) a left_a) (back (index_file stream n) b left_b);
  in_line = λ F pick picks. r.in_line F pick (λ f. back f (pick f) (picks f));
}

pub stays_recoverable : (stream : ℕ) (s t : DiskState) → ((f : FileId) → s.images f (s.seen f)) → LogStays stream s t → LogRecoverable stream s → LogRecoverable stream t
stays_recoverable stream s t law stays r = record {
  left = λ n under. left_stays stream n s t (stays n).segment (stays n).index (r.left n under);
  in_line = λ F pick picks.
      let found = files_while stream s t law stays pick picks in
      subst (λ (files : ℕ → Pair). InLine F files) (sym found.2) (r.in_line F found.0 found.1);
}

-- ---- a segment without records is removed

in_line_pairs : (F : Finder) (P Q : ℕ → Pair) → ((i : ℕ) → SamePair P Q i) → InLine F P → InLine F Q
in_line_pairs F P Q all line = record {
  begins_at = λ n under counts.
      let back = counts_same Q P n (same_back P Q n (all n)) counts in
      line.begins_at n under back.1 ∙ ap end_of (below_pairs F n P Q all);
  chunks = λ n later lt under counts last.
      let back = counts_same Q P n (same_back P Q n (all n)) counts in
      let above = counts_same Q P later (same_back P Q later (all later)) last in
      subst (λ (p : Pair). AreChunks (pair_log F n p) p) (sym back.0) (line.chunks n later lt under back.1 above.1);
}

pub ghost_recoverable : (stream n : ℕ) (s t : DiskState) → ((f : FileId) → s.images f (s.seen f)) → 0 < n → BesidesPair stream n s t → length (bytes_of (s.seen (index_file stream n))) ≤ 8 → GoneOrBefore stream n s t → (EachLeft stream n s → EachLeft stream n t)
    → LogRecoverable stream s → LogRecoverable stream t
ghost_recoverable stream n s t law some besides short moved leaves r = record {
  left = λ m under. elim (cases_eq m n) [
    | inl is ↦ subst (λ (k : ℕ). EachLeft stream k t) (sym is) (leaves (subst (λ (k : ℕ). EachLeft stream k s) is (r.left m under)))
    | inr ne ↦ left_stays stream m s t (segment_stays stream n m s t besides ne) (index_stays stream n m s t besides ne) (r.left m under)
  ];
  in_line = λ F pick picks. elim (moved (pick (segment_file stream n)) (pick (index_file stream n)) (picks (segment_file stream n)) (picks (index_file stream n))) [
    | inl none ↦ in_line_pairs F (files_of stream (mixed stream n s pick)) (files_of stream pick) (same pick none) (r.in_line F (mixed stream n s pick) (mixed_picks stream n s t pick law besides picks))
    | inr both ↦ r.in_line F pick (picks_before stream n s t pick besides picks both.0 both.1)
  ];
}
  where
    same : (pick : FileId → Image) → pick (index_file stream n) ≡ None → (i : ℕ) → SamePair (files_of stream (mixed stream n s pick)) (files_of stream pick) i
    same pick none i = elim (cases_eq i n) [
      | inl here ↦ inr (
        omega (arith, some, here),
        subst (λ (k : ℕ). length (bytes_of (mixed stream n s pick (index_file stream k))) ≤ 8) (sym here) (subst (λ (c : Image). length (bytes_of c) ≤ 8) (sym (mixed_here stream n s pick)) short),
        subst (λ (k : ℕ). length (bytes_of (pick (index_file stream k))) ≤ 8) (sym here) (none_short (pick (index_file stream n)) none),
      )
      | inr ne ↦ inl (λ j. (bytes_of (mixed_segment stream n i s pick ne j), bytes_of (mixed_index stream n i s pick ne j)))
    ]

pub sift_recoverable : (stream n : ℕ) (s t u : DiskState) → ((f : FileId) → t.images f (t.seen f)) → 0 < n → Looks s t → (HasRecords stream s n → ⊥) → BesidesPair stream n t u → GoneOrBefore stream n t u → (EachLeft stream n t → EachLeft stream n u) → LogRecoverable stream s → LogRecoverable stream u
sift_recoverable stream n s t u law some looks none besides moved leaves r =
    let short : length (bytes_of (t.seen (index_file stream n))) ≤ 8 = subst (λ (c : Image). length (bytes_of c) ≤ 8) (sym (looks.seen (index_file stream n))) (sift_short stream n s none) in
    ghost_recoverable stream n t u law some besides short moved leaves (images_recoverable stream s t looks.images r)

pub clears_above : (stream n k : ℕ) (kept numbers : List ℕ) (s t : DiskState) → k < length numbers → n ≡ get_or numbers k 0 → ClearsTo stream kept (drop k numbers) s t → 0 < n
clears_above stream n k kept numbers s t lt at clears =
    let here : ClearsTo stream kept (n ∷ drop (k + 1) numbers) s t = subst (λ (l : List ℕ). ClearsTo stream kept l s t) (next_number k numbers n lt at) clears in
    omega (arith, rising_at 1 n kept (drop (k + 1) numbers) here.rising)

-- ---- the last number of a recovery

pub reached_recoverable : (stream n : ℕ) (rows : List ChunkAt) (chunks : List Chunk) (s t u : DiskState) → n < 2 ^ 64 → ReachedLast stream n rows chunks s → Looks s t → BesidesPair stream n t u → (EachLeft stream n t → EachLeft stream n u) → LogRecoverable stream s → LogRecoverable stream u
reached_recoverable stream n rows chunks s t u lt last looks besides leaves r =
    let at = last.reached in
    let here = looks_besides stream n s t looks in
    last_recoverable stream n at.older t u lt at.follows (held_stays stream n n at.older s t here (omega arith) at.below) (missing_from_stays stream n (n + 1) (2 ^ 64) s t here (omega arith) last.above) besides (leaves ((images_recoverable stream s t looks.images r).left n lt))

-- ---- with the promises

pub backs_open : (id : FileId) (hand : InHand) (s : DiskState) → hand.id ≡ id → Backs hand s → EachBoth id Opens s
backs_open id hand s is backs files left = (backs.near.1 files (subst (λ (f : FileId). Leaves f s files) (sym is) left)).opens

-- files of pairs of which images only go
pub words_left : (id : FileId) (s t : DiskState) → FileStays id s t → FileStays (second_file id) s t → EachBoth id Opens s → EachBoth id Opens t
words_left id s t one two words files left = words files (record { first = one.images files.first left.first; second = two.images files.second left.second })

pub words_images : (id : FileId) (s t : DiskState) → ImagesOf s t → EachBoth id Opens s → EachBoth id Opens t
words_images id s t back words files left = words files (record { first = back id files.first left.first; second = back (second_file id) files.second left.second })

pub words_seen : (id : FileId) (s : DiskState) → ((f : FileId) → s.images f (s.seen f)) → EachBoth id Opens s → Opens (seen_files id s)
words_seen id s law words = words (seen_files id s) (record { first = law id; second = law (second_file id) })

pub outside_recoverable : (stream : ℕ) (s m : DiskState) → OutsideLog stream s m → (LogRecoverable stream s → LogRecoverable stream m) → Recoverable stream s → Recoverable stream m
outside_recoverable stream s m outside log r = record {
  log = log r.log;
  words = words_left (promise_file stream) s m (outside_stay stream (promise_file stream) s m outside (promise_apart stream)) (outside_stay stream (second_file (promise_file stream)) s m outside (second_apart stream)) r.words;
}

pub opened_recoverable : (stream : ℕ) (s m t : DiskState) → ((f : FileId) → m.images f (m.seen f)) → OutsideLog stream s m → (LogRecoverable stream s → LogRecoverable stream m) → KeepsPairs (promise_file stream) m t → Besides (promise_file stream) (second_file (promise_file stream)) m t
    → Recoverable stream s → Recoverable stream t
opened_recoverable stream s m t law outside log keeps besides was =
    let r = outside_recoverable stream s m outside log was in
    record {
      log = stays_recoverable stream m t law (put_leaves stream m t besides) r.log;
      words = λ files left. let (before, here, same) = keeps files left in same.opens (r.words before here);
    }

-- a job of the log
pub job_recoverable : (was store : StoreInHand) → was ≡ store → (segments : List Segment) (s t : DiskState) → StoreStands store segments s → OutsideLog was.log.stream s t → LogRecoverable was.log.stream t → Recoverable store.stream t
job_recoverable was store same segments s t stands outside log =
    let here : StoreStands was segments s = subst (λ (v : StoreInHand). StoreStands v segments s) (sym same) stands in
    subst (λ (v : StoreInHand). Recoverable v.stream t) same (record {
      log = subst (λ (n : ℕ). LogRecoverable n t) here.of.log log;
      words = backs_open (promise_file was.stream) was.promises t here.of.promises (promise_stays was segments s t here outside).0;
    })

-- and one of the promises
pub put_recoverable : (was store : StoreInHand) → was ≡ store → (hand : InHand) (segments : List Segment) (s t : DiskState) → StoreStands store segments s → hand.id ≡ was.promises.id → Besides was.promises.id (second_file was.promises.id) s t → Backs hand t → Recoverable store.stream t
put_recoverable was store same hand segments s t stands id besides backs =
    let here : StoreStands was segments s = subst (λ (v : StoreInHand). StoreStands v segments s) (sym same) stands in
    subst (λ (v : StoreInHand). Recoverable v.stream t) same (record {
      log = subst (λ (n : ℕ). LogRecoverable n t) here.of.log (held_recoverable was.log.stream was.log.rows segments t (log_stays was segments s t here besides));
      words = backs_open (promise_file was.stream) hand t (id ∙ here.of.promises) backs;
    })

-- ---- what is recoverable

pub backed_recoverable : (store : StoreInHand) (chunks : List Chunk) (s : DiskState) → BackedStore store chunks s → Recoverable store.stream s
backed_recoverable store chunks s backed =
    let stands = backed.stands in
    record {
      log = subst (λ (n : ℕ). LogRecoverable n s) stands.of.log (held_recoverable store.log.stream store.log.rows backed.segments s stands.log);
      words = backs_open (promise_file store.stream) store.promises s stands.of.promises stands.promises;
    }

short_images : (n : ℕ) (a b : Image) → a ≡ None → b ≡ None → IsLeft n a b
short_images n a b none_a none_b = record {
  together = λ gone. none_b;
  few = λ F. omega (arith, none_short b none_b);
  headers = λ first. (inl (none_short a none_a), inl (none_short b none_b));
}

opens_none : (files : Files) → files.first ≡ None → files.second ≡ None → Opens files
opens_none files first second = subst (λ (c : Image). Opens (record { first = c; second = files.second })) (sym first) (inl (none_short files.second second))

pub words_none : (id : FileId) (s : DiskState) → NoFiles id.stream s → EachBoth id Opens s
words_none id s none files left = opens_none files ((none id refl).only files.first left.first) ((none (second_file id) refl).only files.second left.second)

pub none_recoverable : (stream : ℕ) (s : DiskState) → NoFiles stream s → Recoverable stream s
none_recoverable stream s none = record {
  log = tail_recoverable stream 0 [] s (omega arith) refl (λ i ge less. absurd (omega (arith, less))) (λ i ge less. missing i) (λ a b left_a left_b. short_images 0 a b ((none (segment_file stream 0) refl).only a left_a) ((none (index_file stream 0) refl).only b left_b));
  words = words_none (promise_file stream) s none;
}
  where
    missing : (i : ℕ) → Missing stream i s
    missing i = record { segment = (none (segment_file stream i) refl).seen; index = (none (index_file stream i) refl).only }

-- ---- what follows

not_too_much : (F : Finder) (n : ℕ) (a b : Image) → IsLeft n a b → IsTooMuch n (bytes_of a, bytes_of b) (pair_log F n (bytes_of a, bytes_of b)) → ⊥
not_too_much F n a b left (inl long) = absurd (omega (arith, left.few F, long))
not_too_much F n a b left (inr (first, inl other)) = elim (left.headers first).0 [
  | inl short ↦ absurd (omega (arith, short, other.0))
  | inr is ↦ absurd (cc (sym is ∙ other.1))
]
not_too_much F n a b left (inr (first, inr other)) = elim (left.headers first).1 [
  | inl short ↦ absurd (omega (arith, short, other.0))
  | inr is ↦ absurd (cc (sym is ∙ other.1))
]

pub recoverable_undamaged : (stream : ℕ) (s : DiskState) → LogRecoverable stream s → (F : Finder) (pick : FileId → Image) → Picks s pick → (n at : ℕ) → IsDamaged F (files_of stream pick) n at → ⊥
recoverable_undamaged stream s r F pick picks n at damaged =
    let line = r.in_line F pick picks in
    elim damaged.wrong [
      | inl misplaced ↦ misplaced.apart (line.begins_at n damaged.under damaged.counts)
      | inr (inl broken) ↦ broken.chunks (line.chunks n broken.later broken.above.0 broken.above.1 damaged.counts broken.above.2)
      | inr (inr spoilt) ↦ not_too_much F n (pick (segment_file stream n)) (pick (index_file stream n)) (r.left n damaged.under (pick (segment_file stream n)) (pick (index_file stream n)) (picks (segment_file stream n)) (picks (index_file stream n))) spoilt.more
    ]

pub recoverable_can : (stream : ℕ) (s : DiskState) → ((f : FileId) → s.images f (s.seen f)) → Recoverable stream s → CanRecover stream s
recoverable_can stream s law r = record {
  returns = λ n under segment index c left. (r.log.left n under (s.seen (segment_file stream n)) c (law (segment_file stream n)) left).together segment;
  undamaged = recoverable_undamaged stream s r.log;
}

pub recoverable_opens : (stream : ℕ) (s : DiskState) → ((f : FileId) → s.images f (s.seen f)) → Recoverable stream s → Opens (seen_files (promise_file stream) s)
recoverable_opens stream s law r = words_seen (promise_file stream) s law r.words

-- ---- what keeps it

kept_images : (stream : ℕ) (s t : DiskState) → ImagesOf s t → Recoverable stream s → Recoverable stream t
kept_images stream s t back r = record {
  log = images_recoverable stream s t back r.log;
  words = words_images (promise_file stream) s t back r.words;
}

pub looks_recoverable : (stream : ℕ) (s t : DiskState) → Looks s t → Recoverable stream s → Recoverable stream t
looks_recoverable stream s t looks = kept_images stream s t looks.images

pub crash_recoverable : (stream of : ℕ) (s t : DiskState) → LeftByCrash of s t → Recoverable stream s → Recoverable stream t
crash_recoverable stream of s t crash = kept_images stream s t (crash_images of s t crash)

pub streams_recoverable : (stream of : ℕ) (s t : DiskState) → ((f : FileId) → s.images f (s.seen f)) → stream ≢ of → OtherStreams of s t → Recoverable stream s → Recoverable stream t
streams_recoverable stream of s t law ne others r = record {
  log = stays_recoverable stream s t law (λ n. record { segment = streams_stay (segment_file stream n) of s t ne others; index = streams_stay (index_file stream n) of s t ne others }) r.log;
  words = words_left (promise_file stream) s t (streams_stay (promise_file stream) of s t ne others) (streams_stay (second_file (promise_file stream)) of s t ne others) r.words;
}
