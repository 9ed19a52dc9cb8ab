-- What recovery makes of the last number, and how it comes there.
use Rattle.std.proofs.Common.{◌≡◌, ◌⊎◌, inl, inr, ℕ, ◌+◌, ◌<◌, ◌^◌, List, [], ◌∷◌, ◌++◌, length, Err, refl, sym, ◌∙◌, ap, subst, arith}
use Rattle.std.specs.Prelude.{Bool, false, IsErrOf, IsTrue, ◌↔◌}
use Rattle.std.proofs.lemmas.Bool.{cases_lt}
use Rattle.std.proofs.lemmas.List.{append-nil}
use Rattle.disk_calls.specs.declared.file_id.FileId.{FileId}
use Rattle.disk_calls.specs.Disk.{DiskState, Image, bytes_of, Looks}
use Rattle.chunk_format.specs.declared.chunk.Chunk.{Chunk}
use Rattle.chunk_format.specs.Logs.{end_from, end_of}
use Rattle.segment_pairs.specs.declared.look.Headless.{Headless}
use Rattle.segment_pairs.specs.Log.{Chain, Finder, pair_log}
use Rattle.segment_pairs.specs.Held.{segment_file, index_file, Segment, all_chunks, files_of, EachPair, Missing, MissingFrom, Stands, HeldBelow, BesidesPair, KeepsLog, GoneOrBefore, seen_log}
use Rattle.segment_pairs.proofs.Pairs.{end_from-append}
use Rattle.segment_pairs.proofs.Making.{none_log, none_short}
use Rattle.segment_pairs.proofs.Many.{log_tail}
use Rattle.segment_pairs.proofs.Lifting.{held_stays, held_up, missing_from_stays, missing_more}
use Rattle.segment_store.specs.declared.fault.StoreFault.TheVariants as store
use Rattle.segment_store.specs.declared.rows.ChunkAt.{ChunkAt}
use Rattle.segment_store.specs.Rows.{IsFilled, rows_at}
use Rattle.segment_store.specs.Recovery.{Adds, Ends, Exceeds, IsSpoiltHead, IsUneven, Listed, LogOrBefore, Reached, ReachedLast, Recovers, Restarts}
use Rattle.segment_store.proofs.RecoveryNumbers.{missing_looks}
use Rattle.segment_store.proofs.RecoveryFound.{LacksAt, ReadsAt, headless_exceeds, headless_uneven, read_exceeds, read_stands, read_uneven}
use Rattle.segment_store.proofs.RecoveryGhosts.{besides_then, keeps_then, looks_keep, looks_besides, looks_same_log, picks_before}

-- ---- a number that begins anew, or is gone

pub gone_or_before : (stream n : ℕ) (s t : DiskState) → GoneOrBefore stream n s t → LogOrBefore stream n [] s t
gone_or_before stream n s t before a b left_a left_b = elim (before a b left_a left_b) [
  | inl none ↦ inl (λ F. none_log F n a b (none_short b none))
  | inr both ↦ inr both
]

pub each_or_before : (stream n : ℕ) (cs : List Chunk) (s t : DiskState) → EachPair stream n (λ l. l ≡ cs) t → LogOrBefore stream n cs s t
each_or_before stream n cs s t each a b left_a left_b = inl (λ F. each F a b left_a left_b)

pub all_before : (stream n : ℕ) (cs : List Chunk) (s : DiskState) → LogOrBefore stream n cs s s
all_before stream n cs s a b left_a left_b = inr (left_a, left_b)

-- ---- the last number

-- where the read of the last pair gives these chunks, and each image of it does or is one of before, the log is kept
pub last_keeps : (stream n : ℕ) (cs : List Chunk) (rows : List ChunkAt) (chunks : List Chunk) (s t u : DiskState) → n < 2 ^ 64 → ((f : FileId) → t.images f (t.seen f)) → ReachedLast stream n rows chunks s → Looks s t → ((F : Finder) → pair_log F n (files_of stream t.seen n) ≡ cs)
    → BesidesPair stream n t u → LogOrBefore stream n cs t u → KeepsLog stream s u
last_keeps stream n cs rows chunks s t u lt law last looks log besides before = keeps_then stream s t u (looks_keep stream s t looks) (λ pick picks.
    let r = last.reached in
    let here = looks_besides stream n s t looks in
    let below = held_stays stream n n r.older s t here (omega arith) r.below in
    let above = missing_from_stays stream n (n + 1) (2 ^ 64) s t here (omega arith) last.above in
    let below_after = held_stays stream n n r.older t u besides (omega arith) below in
    let above_after = missing_from_stays stream n (n + 1) (2 ^ 64) t u besides (omega arith) above in
    elim (before (pick (segment_file stream n)) (pick (index_file stream n)) (picks (segment_file stream n)) (picks (index_file stream n))) [
      | inl is ↦ (
        t.seen,
        law,
        λ F. log_tail F stream n r.older u pick lt r.follows below_after above_after picks
            ∙ ap (λ (l : List Chunk). all_chunks r.older ++ l) (is F ∙ sym (log F))
            ∙ sym (log_tail F stream n r.older t t.seen lt r.follows below above law),
      )
      | inr both ↦ (pick, picks_before stream n t u pick besides picks both.0 both.1, λ F. refl)
    ])

last_seen : (F : Finder) (stream n : ℕ) (cs : List Chunk) (rows : List ChunkAt) (chunks : List Chunk) (s t : DiskState) → n < 2 ^ 64 → ((f : FileId) → t.images f (t.seen f)) → (last : ReachedLast stream n rows chunks s) → Looks s t → pair_log F n (files_of stream t.seen n) ≡ cs
    → seen_log F stream s ≡ all_chunks last.reached.older ++ cs
last_seen F stream n cs rows chunks s t lt law last looks log =
    let r = last.reached in
    let here = looks_besides stream n s t looks in
    let below = held_stays stream n n r.older s t here (omega arith) r.below in
    let above = missing_from_stays stream n (n + 1) (2 ^ 64) s t here (omega arith) last.above in
    sym (looks_same_log F stream s t looks) ∙ log_tail F stream n r.older t t.seen lt r.follows below above law ∙ ap (λ (l : List Chunk). all_chunks r.older ++ l) log

some_older : (stream n : ℕ) (older : List Segment) (s : DiskState) → 0 < n → n ≡ end_of (all_chunks older) → HeldBelow stream n older s → IsFilled older
some_older stream n [] s some follows below = absurd (omega (arith, some, follows))
some_older stream n (x ∷ older) s some follows below =
    let end : end_of (all_chunks (x ∷ older)) ≡ end_from x.number x.chunks = end_from-append 0 (all_chunks older) x.chunks ∙ ap (λ (k : ℕ). end_from k x.chunks) (sym below.follows) in
    inr (has x.number x.chunks (omega (arith, follows, end, below.under)))
  where
    has : (k : ℕ) (cs : List Chunk) → k < end_from k cs → 0 < length cs
    has k [] lt = absurd (omega (arith, lt))
    has k (c ∷ cs) lt = omega arith

none_older : (stream n : ℕ) (older : List Segment) (s : DiskState) → n ≡ 0 → HeldBelow stream n older s → older ≡ []
none_older stream n [] s is below = refl
none_older stream n (x ∷ older) s is below = absurd (omega (arith, is, below.under))

-- what is left then
pub last_recovers : (stream n : ℕ) (cs : List Chunk) (rows more_rows : List ChunkAt) (chunks more_chunks : List Chunk) (s t u : DiskState) → n < 2 ^ 64 → ((f : FileId) → t.images f (t.seen f)) → ReachedLast stream n rows chunks s → Looks s t
    → ((F : Finder) → pair_log F n (files_of stream t.seen n) ≡ cs) → BesidesPair stream n t u → Ends stream n cs rows more_rows chunks more_chunks u → Recovers stream more_rows more_chunks s u
last_recovers stream n cs rows more_rows chunks more_chunks s t u lt law last looks log besides (inl gone) =
    let r = last.reached in
    let here = looks_besides stream n s t looks in
    let below = held_stays stream n n r.older t u besides (omega arith) (held_stays stream n n r.older s t here (omega arith) r.below) in
    let above = missing_from_stays stream n (n + 1) (2 ^ 64) t u besides (omega arith) (missing_from_stays stream n (n + 1) (2 ^ 64) s t here (omega arith) last.above) in
    let are : more_chunks ≡ all_chunks r.older = gone.4 ∙ r.chunks_are in
    record {
      segments = r.older;
      stands = record {
        held = held_up stream n (2 ^ 64) r.older u (omega (arith, lt)) below (missing_more stream n (2 ^ 64) u gone.2 above);
        filled = some_older stream n r.older s gone.0 r.follows r.below;
        are = gone.3 ∙ r.rows_are;
      };
      are = are;
      was = λ F. last_seen F stream n cs rows chunks s t lt law last looks (log F) ∙ ap (λ (l : List Chunk). all_chunks r.older ++ l) gone.1 ∙ append-nil (all_chunks r.older) ∙ sym are;
    }
last_recovers stream n cs rows more_rows chunks more_chunks s t u lt law last looks log besides (inr stands) =
    let r = last.reached in
    let here = looks_besides stream n s t looks in
    let below = held_stays stream n n r.older t u besides (omega arith) (held_stays stream n n r.older s t here (omega arith) r.below) in
    let above = missing_from_stays stream n (n + 1) (2 ^ 64) t u besides (omega arith) (missing_from_stays stream n (n + 1) (2 ^ 64) s t here (omega arith) last.above) in
    let are : more_chunks ≡ all_chunks r.older ++ cs = stands.3 ∙ ap (λ (l : List Chunk). l ++ cs) r.chunks_are in
    record {
      segments = record { number = n; chunks = cs } ∷ r.older;
      stands = record {
        held = record { under = lt; follows = r.follows; stands = stands.1; above = above; below = below };
        filled = filled stands.0;
        are = stands.2 ∙ ap (λ (l : List ChunkAt). l ++ rows_at n 0 8 cs) r.rows_are;
      };
      are = are;
      was = λ F. last_seen F stream n cs rows chunks s t lt law last looks (log F) ∙ sym are;
    }
  where
    filled : (n ≡ 0) ⊎ (0 < length cs) → IsFilled (record { number = n; chunks = cs } ∷ last.reached.older)
    filled (inl is) = inl (none_older stream n last.reached.older s is last.reached.below)
    filled (inr some) = inr some

-- a number that restarts ends so
pub restart_ends : (stream n : ℕ) (cs : List Chunk) (rows more_rows : List ChunkAt) (chunks more_chunks : List Chunk) (s : DiskState) → cs ≡ [] → more_rows ≡ rows → more_chunks ≡ chunks → Restarts stream n s → Ends stream n cs rows more_rows chunks more_chunks s
restart_ends stream n cs rows more_rows chunks more_chunks s none same_rows same_chunks restarts = elim (cases_lt 0 n) [
  | inl some ↦ inl (some, none, restarts.gone some, same_rows, same_chunks)
  | inr le ↦
      let is : n ≡ 0 = omega (arith, le) in
      let stands : Stands stream (record { number = n; chunks = cs }) s = subst (λ (x : Segment). Stands stream x s) (λ i. record { number = sym is i; chunks = sym none i }) (restarts.anew is) in
      inr (
        inl is,
        stands,
        same_rows ∙ sym (append-nil rows) ∙ ap (λ (l : List Chunk). rows ++ rows_at n 0 8 l) (sym none),
        same_chunks ∙ sym (append-nil chunks) ∙ ap (λ (l : List Chunk). chunks ++ l) (sym none),
      )
]

-- ---- one number more

pub reached_none : (stream : ℕ) (rows : List ChunkAt) (chunks : List Chunk) (s : DiskState) → rows ≡ [] → chunks ≡ [] → Reached stream 0 rows chunks s
reached_none stream rows chunks s no_rows no_chunks = record { older = []; below = λ i ge less. absurd (omega (arith, less)); follows = refl; counts = inl refl; rows_are = no_rows; chunks_are = no_chunks }

-- the segment of a number stands below the next one
pub added_below : (stream n next : ℕ) (rows more_rows : List ChunkAt) (chunks more_chunks : List Chunk) (end : ℕ) (s t : DiskState) → n < next → Looks s t → (r : Reached stream n rows chunks s) → MissingFrom stream (n + 1) next s → (a : Adds stream n rows more_rows chunks more_chunks t end)
    → HeldBelow stream next (record { number = n; chunks = a.cs } ∷ r.older) t
added_below stream n next rows more_rows chunks more_chunks end s t lt looks r between a =
    let here = looks_besides stream n s t looks in
    record {
      under = lt;
      follows = r.follows;
      stands = a.stands;
      above = missing_from_stays stream n (n + 1) next s t here (omega arith) between;
      below = held_stays stream n n r.older s t here (omega arith) r.below;
    }

pub added_end : (n end : ℕ) (older cs : List Chunk) → n ≡ end_of older → end ≡ end_from n cs → end ≡ end_of (older ++ cs)
added_end n end older cs is end_is = end_is ∙ ap (λ (k : ℕ). end_from k cs) is ∙ sym (end_from-append 0 older cs)

pub listed_looks : (stream low : ℕ) (numbers : List ℕ) (s t : DiskState) → Looks s t → Listed stream low numbers s → Listed stream low numbers t
listed_looks stream low [] s t looks listed = λ i ge less. missing_looks stream i s t looks (listed i ge less)
listed_looks stream low (n ∷ rest) s t looks listed = record {
  from = listed.from;
  under = listed.under;
  counts = subst (λ (c : Image). 8 < length (bytes_of c)) (sym (looks.seen (index_file stream n))) listed.counts;
  between = λ i ge less. missing_looks stream i s t looks (listed.between i ge less);
  above = listed_looks stream (n + 1) rest s t looks listed.above;
}

-- where recovery is: this number is the next to be read
pub record WalksTo (stream n : ℕ) (rows : List ChunkAt) (chunks : List Chunk) (rest : List ℕ) (s : DiskState) : Type 0 where
  pub under : n < 2 ^ 64
  pub reached : Reached stream n rows chunks s
  pub listed : Listed stream (n + 1) rest s

pub walks_start : (stream : ℕ) (rows : List ChunkAt) (chunks : List Chunk) (numbers : List ℕ) (s : DiskState) → rows ≡ [] → chunks ≡ [] → Listed stream 1 numbers s → WalksTo stream 0 rows chunks numbers s
walks_start stream rows chunks numbers s no_rows no_chunks listed = record { under = omega arith; reached = reached_none stream rows chunks s no_rows no_chunks; listed = listed }

pub walks_more : (stream n next : ℕ) (rest : List ℕ) (rows more_rows : List ChunkAt) (chunks more_chunks : List Chunk) (end : ℕ) (s t : DiskState) → Looks s t → WalksTo stream n rows chunks (next ∷ rest) s → Adds stream n rows more_rows chunks more_chunks t end → next ≡ end
    → WalksTo stream next more_rows more_chunks rest t
walks_more stream n next rest rows more_rows chunks more_chunks end s t looks w a is =
    let r = w.reached in
    let listed = listed_looks stream (n + 1) (next ∷ rest) s t looks w.listed in
    record {
      under = listed.under;
      reached = record {
        older = record { number = n; chunks = a.cs } ∷ r.older;
        below = added_below stream n next rows more_rows chunks more_chunks end s t (omega (arith, listed.from)) looks r w.listed.between a;
        follows = is ∙ added_end n end (all_chunks r.older) a.cs r.follows a.ends;
        counts = inr listed.counts;
        rows_are = a.rows_are ∙ ap (λ (l : List ChunkAt). l ++ rows_at n 0 8 a.cs) r.rows_are;
        chunks_are = a.chunks_are ∙ ap (λ (l : List Chunk). l ++ a.cs) r.chunks_are;
      };
      listed = listed.above;
    }

pub walks_end : (stream n : ℕ) (rows : List ChunkAt) (chunks : List Chunk) (rest : List ℕ) (s : DiskState) → rest ≡ [] → WalksTo stream n rows chunks rest s → ReachedLast stream n rows chunks s
walks_end stream n rows chunks rest s none w = record { reached = w.reached; above = subst (λ (l : List ℕ). Listed stream (n + 1) l s) none w.listed }

-- recovery of what only looks left
pub recovers_from : (stream : ℕ) (rows : List ChunkAt) (chunks : List Chunk) (s t u : DiskState) → ((F : Finder) → seen_log F stream t ≡ seen_log F stream s) → Recovers stream rows chunks t u → Recovers stream rows chunks s u
recovers_from stream rows chunks s t u same r = record { segments = r.segments; stands = r.stands; are = r.are; was = λ F. sym (same F) ∙ r.was F }

-- ---- number 0

pub zero_before : (stream n : ℕ) (s u : DiskState) → n ≡ 0 → EachPair stream 0 (λ l. l ≡ []) u → LogOrBefore stream n [] s u
zero_before stream n s u is each = each_or_before stream n [] s u (subst (λ (k : ℕ). EachPair stream k (λ l. l ≡ []) u) (sym is) each)

pub zero_besides : (stream n : ℕ) (s t u : DiskState) → n ≡ 0 → BesidesPair stream n s t → BesidesPair stream 0 t u → BesidesPair stream n s u
zero_besides stream n s t u is a b = besides_then stream n s t u a (subst (λ (k : ℕ). BesidesPair stream k t u) (sym is) b)

pub zero_missing : (stream n : ℕ) (s : DiskState) → n ≡ 0 → Missing stream n s → Missing stream 0 s
zero_missing stream n s is missing = subst (λ (k : ℕ). Missing stream k s) is missing

pub gone_restarts : (stream n : ℕ) (s : DiskState) → 0 < n → Missing stream n s → Restarts stream n s
gone_restarts stream n s some missing = record { gone = λ more. missing; anew = λ is. absurd (omega (arith, is, some)) }

pub zero_restarts : (stream n : ℕ) (s : DiskState) → n ≡ 0 → Stands stream (record { number = 0; chunks = [] }) s → Restarts stream n s
zero_restarts stream n s is stands = record { gone = λ some. absurd (omega (arith, is, some)); anew = λ same. stands }

-- ---- answers of damage

-- which segment is told, and which record
pub told_damage : {T : Type 0} (n at segment record_at : ℕ) → IsErrOf {T = T} (Err (store.Damaged n at)) (store.Damaged segment record_at) → (n ≡ segment) × (at ≡ record_at)
told_damage n at segment record_at is = (cc is, cc is)

pub headless_damaged : (stream n segment at : ℕ) (h : Headless) (s : DiskState) → LacksAt stream n h s → IsSpoiltHead n h → IsErrOf {T = Unit {0}} (Err (store.Damaged n 0)) (store.Damaged segment at) → (segment ≡ n) × Exceeds n (files_of stream s.seen n) at
headless_damaged stream n segment at h s lacks spoilt is =
    let same = told_damage n 0 segment at is in
    (sym same.0, subst (λ (k : ℕ). Exceeds n (files_of stream s.seen n) k) same.1 (headless_exceeds stream n h s lacks spoilt))

pub reads_damaged : {T : Type 0} (stream n segment at place index_place end count : ℕ) (chunks items : List Chunk) (size index_size : ℕ) (s : DiskState) → ReadsAt stream n place index_place end chunks size index_size s → index_place + 29 < index_size → count ≡ length items → items ≡ chunks
    → IsErrOf {T = T} (Err (store.Damaged n count)) (store.Damaged segment at) → (segment ≡ n) × Exceeds n (files_of stream s.seen n) at
reads_damaged stream n segment at place index_place end count chunks items size index_size s reads more counted same is =
    let told = told_damage n count segment at is in
    (sym told.0, subst (λ (k : ℕ). Exceeds n (files_of stream s.seen n) k) told.1 (read_exceeds stream n place index_place end chunks size index_size count s reads more (counted ∙ ap length same)))

pub headless_broken : {T : Type 0} (stream n segment at : ℕ) (h : Headless) (s : DiskState) → LacksAt stream n h s → IsErrOf {T = T} (Err (store.Damaged n 0)) (store.Damaged segment at) → (segment ≡ n) × IsUneven n (files_of stream s.seen n) at
headless_broken stream n segment at h s lacks is =
    let same = told_damage n 0 segment at is in
    (sym same.0, subst (λ (k : ℕ). IsUneven n (files_of stream s.seen n) k) same.1 (headless_uneven stream n h s lacks))

pub reads_broken : {T : Type 0} (stream n segment at place index_place end count : ℕ) (chunks items : List Chunk) (size index_size : ℕ) (s : DiskState) → ReadsAt stream n place index_place end chunks size index_size s → (size ≡ place → index_size ≡ index_place → ⊥) → count ≡ length items → items ≡ chunks
    → IsErrOf {T = T} (Err (store.Damaged n count)) (store.Damaged segment at) → (segment ≡ n) × IsUneven n (files_of stream s.seen n) at
reads_broken stream n segment at place index_place end count chunks items size index_size s reads uneven counted same is =
    let told = told_damage n count segment at is in
    (sym told.0, subst (λ (k : ℕ). IsUneven n (files_of stream s.seen n) k) told.1 (read_uneven stream n place index_place end chunks size index_size count s reads uneven (counted ∙ ap length same)))

-- what was read stands, and was added
pub reads_add : (stream n place index_place end : ℕ) (chunks items : List Chunk) (size index_size : ℕ) (rows more_rows : List ChunkAt) (old more_chunks : List Chunk) (s : DiskState) → ReadsAt stream n place index_place end chunks size index_size s → size ≡ place → index_size ≡ index_place → items ≡ chunks
    → (Chain 8 n items → more_rows ≡ rows ++ rows_at n 0 8 items) → more_chunks ≡ old ++ items → Adds stream n rows more_rows old more_chunks s end
reads_add stream n place index_place end chunks items size index_size rows more_rows old more_chunks s reads one two same rows_are chunks_are =
    let chain : Chain 8 n items = subst (λ (l : List Chunk). Chain 8 n l) (sym same) reads.shows.walked.walks.chain in
    record {
      cs = items;
      stands = subst (λ (l : List Chunk). Stands stream (record { number = n; chunks = l }) s) (sym same) (read_stands stream n place index_place end chunks size index_size s reads one two);
      rows_are = rows_are chain;
      chunks_are = chunks_are;
      ends = reads.shows.walked.walks.end_is ∙ ap (λ (l : List Chunk). end_from n l) (sym same);
    }

pub reads_end : (stream n place index_place end : ℕ) (chunks items : List Chunk) (size index_size : ℕ) (rows more_rows : List ChunkAt) (old more_chunks : List Chunk) (s t : DiskState) → ReadsAt stream n place index_place end chunks size index_size s → items ≡ chunks → (n ≡ 0) ⊎ (0 < length items)
    → Stands stream (record { number = n; chunks = chunks }) t → (Chain 8 n items → more_rows ≡ rows ++ rows_at n 0 8 items) → more_chunks ≡ old ++ items → Ends stream n chunks rows more_rows old more_chunks t
reads_end stream n place index_place end chunks items size index_size rows more_rows old more_chunks s t reads same some stands rows_are chunks_are =
    let chain : Chain 8 n items = subst (λ (l : List Chunk). Chain 8 n l) (sym same) reads.shows.walked.walks.chain in
    inr (
      subst (λ (l : List Chunk). (n ≡ 0) ⊎ (0 < length l)) same some,
      stands,
      rows_are chain ∙ ap (λ (l : List Chunk). rows ++ rows_at n 0 8 l) same,
      chunks_are ∙ ap (λ (l : List Chunk). old ++ l) same,
    )

-- a segment that is no leftover
pub some_chunks : (n count : ℕ) (items : List Chunk) (b : Bool) → (IsTrue b ↔ ((0 < n) × (count ≡ 0))) → b ≡ false → count ≡ length items → (n ≡ 0) ⊎ (0 < length items)
some_chunks n count items b told is counted = elim (cases_lt 0 n) [
  | inr le ↦ inl (omega (arith, le))
  | inl some ↦ elim (cases_lt 0 count) [
    | inl more ↦ inr (omega (arith, more, counted))
    | inr none ↦ absurd (cc (sym is ∙ told.1 (some, omega (arith, none))))
  ]
]

pub no_chunks : (items : List Chunk) → length items ≡ 0 → items ≡ []
no_chunks [] is = refl
no_chunks (c ∷ cs) is = absurd (omega (arith, is))
