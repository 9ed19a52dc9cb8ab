-- Which files no crash leaves.
use Rattle.std.proofs.Common.{◌≡◌, ◌≢◌, ◌⊎◌, inl, inr, ℕ, ◌+◌, ◌≤◌, ◌<◌, ◌^◌, List, [], ◌∷◌, length, refl, sym, ◌∙◌, ap, subst, arith}
use Rattle.std.proofs.lemmas.Bool.{cases_eq, cases_lt}
use Rattle.disk_calls.specs.declared.file_id.FileId.{FileId}
use Rattle.disk_calls.specs.Disk.{DiskState, Image, bytes_of, Looks}
use Rattle.chunk_format.specs.declared.chunk.Chunk.{Chunk}
use Rattle.chunk_format.specs.Logs.{end_of}
use Rattle.segment_pairs.specs.Log.{Finder, Pair, Reading, pair_log, segment_of, index_of}
use Rattle.segment_pairs.specs.Held.{segment_file, index_file, Segment, all_chunks, Picks, files_of, Missing, MissingFrom, Stands, HeldBelow}
use Rattle.segment_pairs.proofs.Pairs.{pair_whole}
use Rattle.segment_pairs.proofs.Many.{read_held, standing, missing_index}
use Rattle.segment_store.specs.declared.rows.ChunkAt.{ChunkAt}
use Rattle.segment_store.specs.Recovery.{Adds, AreChunks, Counts, Exceeds, IsDamaged, IsEnough, IsSound, IsTooMuch, IsUneven, ReachedLast, SameOrNone, SeenDamaged, log_below}
use Rattle.segment_store.proofs.RecoveryGhosts.{read_same, same_looks}
use Rattle.segment_store.proofs.RecoveryLast.{WalksTo, added_below, added_end, listed_looks}

-- ---- a number without files does not count

pub missing_counts : (stream n : ℕ) (s : DiskState) (pick : FileId → Image) → Picks s pick → 0 < n → Missing stream n s → Counts n (files_of stream pick n) → ⊥
missing_counts stream n s pick picks some missing (inl is) = omega (arith, is, some)
missing_counts stream n s pick picks some missing (inr long) = omega (arith, long, missing_index stream n s pick missing picks)

-- ---- segments that stand are sound, in each image

below_is : (F : Finder) (stream n : ℕ) (older : List Segment) (s : DiskState) (pick : FileId → Image) → Picks s pick → HeldBelow stream n older s → log_below F n (files_of stream pick) ≡ all_chunks older
below_is F stream n older s pick picks held = ap (λ (r : Reading). r.chunks) (read_held F stream n older s pick held picks)

sound_at : (F : Finder) (stream : ℕ) (x : Segment) (older : List Segment) (s : DiskState) (pick : FileId → Image) → Picks s pick → x.number ≡ end_of (all_chunks older) → Stands stream x s → HeldBelow stream x.number older s → IsSound F (files_of stream pick) x.number
sound_at F stream x older s pick picks follows stands below =
    let files = files_of stream pick in
    let is = standing stream x s pick stands picks in
    let log : pair_log F x.number (files x.number) ≡ x.chunks = ap (λ (p : Pair). pair_log F x.number p) is ∙ pair_whole F x.number x.chunks stands.chain in
    record {
      begins_at = follows ∙ ap end_of (sym (below_is F stream x.number older s pick picks below));
      chunks = (ap (λ (p : Pair). p.0) is ∙ ap segment_of (sym log), ap (λ (p : Pair). p.1) is ∙ ap index_of (sym log));
    }

pub more : (a b : ℕ) → b ≤ a → (a ≡ b → ⊥) → b + 1 ≤ a
more a b ge ne = elim (cases_lt b a) [ inl lt ↦ omega (arith, lt) | inr le ↦ absurd (ne (omega (arith, ge, le))) ]

pub sound_below : (F : Finder) (stream top : ℕ) (older : List Segment) (s : DiskState) (pick : FileId → Image) → Picks s pick → (older ≡ [] → top ≡ 0) → HeldBelow stream top older s → (m : ℕ) → m < top → Counts m (files_of stream pick m) → IsSound F (files_of stream pick) m
sound_below F stream top [] s pick picks first held m lt counts = absurd (omega (arith, lt, first refl))
sound_below F stream top (x ∷ older) s pick picks first held m lt counts = elim (cases_lt m x.number) [
  | inl less ↦ sound_below F stream x.number older s pick picks (λ none. held.follows ∙ ap (λ (l : List Segment). end_of (all_chunks l)) none) held.below m less counts
  | inr ge ↦ elim (cases_eq m x.number) [
    | inl is ↦ subst (λ (k : ℕ). IsSound F (files_of stream pick) k) (sym is) (sound_at F stream x older s pick picks held.follows held.stands held.below)
    | inr ne ↦ absurd (missing_counts stream m s pick picks (omega (arith, more m x.number ge ne)) (held.above m (more m x.number ge ne) lt) counts)
  ]
]

-- below a number that begins where the log ends
pub tail_sound : (F : Finder) (stream n : ℕ) (older : List Segment) (s : DiskState) (pick : FileId → Image) → Picks s pick → n ≡ end_of (all_chunks older) → HeldBelow stream n older s → (m : ℕ) → m < n → Counts m (files_of stream pick m) → IsSound F (files_of stream pick) m
tail_sound F stream n older s pick picks follows below = sound_below F stream n older s pick picks (λ none. follows ∙ ap (λ (l : List Segment). end_of (all_chunks l)) none) below

pub tail_begins : (F : Finder) (stream n : ℕ) (older : List Segment) (s : DiskState) (pick : FileId → Image) → Picks s pick → n ≡ end_of (all_chunks older) → HeldBelow stream n older s → n ≡ end_of (log_below F n (files_of stream pick))
tail_begins F stream n older s pick picks follows below = follows ∙ ap end_of (sym (below_is F stream n older s pick picks below))

-- nothing is damaged where all below the last number stands, and no more stands behind its chunks
pub tail_undamaged : (F : Finder) (stream n : ℕ) (older : List Segment) (s : DiskState) (pick : FileId → Image) → Picks s pick → n < 2 ^ 64 → n ≡ end_of (all_chunks older) → HeldBelow stream n older s → MissingFrom stream (n + 1) (2 ^ 64) s → Counts n (files_of stream pick n)
    → (IsTooMuch n (files_of stream pick n) (pair_log F n (files_of stream pick n)) → ⊥) → (k at : ℕ) → IsDamaged F (files_of stream pick) k at → ⊥
tail_undamaged F stream n older s pick picks lt follows below above counts enough k at damaged = elim (cases_lt k n) [
  | inl less ↦
      let sound = tail_sound F stream n older s pick picks follows below k less damaged.counts in
      elim damaged.wrong [
        | inl misplaced ↦ misplaced.apart sound.begins_at
        | inr (inl broken) ↦ broken.chunks sound.chunks
        | inr (inr spoilt) ↦ spoilt.last n less lt counts
      ]
  | inr ge ↦ elim (cases_eq k n) [
    | inr ne ↦ missing_counts stream k s pick picks (omega (arith, more k n ge ne)) (above k (more k n ge ne) damaged.under) damaged.counts
    | inl is ↦ here (subst (λ (m : ℕ). IsDamaged F (files_of stream pick) m at) is damaged)
  ]
]
  where
    here : IsDamaged F (files_of stream pick) n at → ⊥
    here found = elim found.wrong [
      | inl misplaced ↦ misplaced.apart (tail_begins F stream n older s pick picks follows below)
      | inr (inl broken) ↦ missing_counts stream broken.later s pick picks (omega (arith, broken.above.0)) (above broken.later (omega (arith, broken.above.0)) broken.above.1) broken.above.2
      | inr (inr spoilt) ↦ enough spoilt.more
    ]

-- ---- what only looks leave

seen_files : (stream : ℕ) (s t : DiskState) → Looks s t → files_of stream t.seen ≡ files_of stream s.seen
seen_files stream s t looks = λ i n. (bytes_of (looks.seen (segment_file stream n) i), bytes_of (looks.seen (index_file stream n) i))

pub damaged_looks : (F : Finder) (stream : ℕ) (s t : DiskState) (n at : ℕ) → Looks s t → SeenDamaged F stream t n at → SeenDamaged F stream s n at
damaged_looks F stream s t n at looks damaged = subst (λ (files : ℕ → Pair). IsDamaged F files n at) (seen_files stream s t looks) damaged

pub damaged_looked : (F : Finder) (stream : ℕ) (s t : DiskState) (n at : ℕ) → Looks s t → SeenDamaged F stream s n at → SeenDamaged F stream t n at
damaged_looked F stream s t n at looks damaged = subst (λ (files : ℕ → Pair). IsDamaged F files n at) (sym (seen_files stream s t looks)) damaged

pub enough_looks : (stream n : ℕ) (s t : DiskState) → Looks s t → IsEnough n (files_of stream t.seen n) → IsEnough n (files_of stream s.seen n)
enough_looks stream n s t looks enough = subst (λ (p : Pair). IsEnough n p) (same_looks stream s t n looks) enough

pub exceeds_looks : (stream n at : ℕ) (s t : DiskState) → Looks s t → Exceeds n (files_of stream t.seen n) at → Exceeds n (files_of stream s.seen n) at
exceeds_looks stream n at s t looks exceeds = subst (λ (p : Pair). Exceeds n p at) (same_looks stream s t n looks) exceeds

pub uneven_looks : (stream n at : ℕ) (s t : DiskState) → Looks s t → IsUneven n (files_of stream t.seen n) at → IsUneven n (files_of stream s.seen n) at
uneven_looks stream n at s t looks uneven = subst (λ (p : Pair). IsUneven n p at) (same_looks stream s t n looks) uneven

-- ---- the answers

-- a segment that is not the last
pub broken_is : (F : Finder) (stream n next at : ℕ) (rest : List ℕ) (rows : List ChunkAt) (chunks : List Chunk) (s : DiskState) → ((f : FileId) → s.images f (s.seen f)) → WalksTo stream n rows chunks (next ∷ rest) s
    → IsUneven n (files_of stream s.seen n) at → SeenDamaged F stream s n at
broken_is F stream n next at rest rows chunks s law w uneven =
    let r = w.reached in
    record {
      under = w.under;
      counts = r.counts;
      below = tail_sound F stream n r.older s s.seen law r.follows r.below;
      wrong = inr (inl (record { begins_at = tail_begins F stream n r.older s s.seen law r.follows r.below; later = next; above = (omega (arith, w.listed.from), w.listed.under, inr w.listed.counts); chunks = (uneven F).0; record_is = (uneven F).1 }));
    }

-- one that does not begin where the log ends
pub misplaced_is : (F : Finder) (stream n next : ℕ) (rest : List ℕ) (rows more_rows : List ChunkAt) (chunks more_chunks : List Chunk) (end : ℕ) (s t : DiskState) → ((f : FileId) → t.images f (t.seen f)) → Looks s t → WalksTo stream n rows chunks (next ∷ rest) s
    → Adds stream n rows more_rows chunks more_chunks t end → next ≢ end → SeenDamaged F stream t next 0
misplaced_is F stream n next rest rows more_rows chunks more_chunks end s t law looks w a ne =
    let r = w.reached in
    let listed = listed_looks stream (n + 1) (next ∷ rest) s t looks w.listed in
    let lt : n < next = omega (arith, w.listed.from) in
    let below = added_below stream n next rows more_rows chunks more_chunks end s t lt looks r w.listed.between a in
    let older : List Segment = record { number = n; chunks = a.cs } ∷ r.older in
    let ends : end ≡ end_of (log_below F next (files_of stream t.seen)) = added_end n end (all_chunks r.older) a.cs r.follows a.ends ∙ ap end_of (sym (below_is F stream next older t t.seen law below)) in
    record {
      under = w.listed.under;
      counts = inr listed.counts;
      below = sound_below F stream next older t t.seen law (λ none. absurd (cc none)) below;
      wrong = inl (record { apart = λ is. ne (is ∙ sym ends); record_is = refl });
    }

-- the last
pub spoilt_last : (F : Finder) (stream n at : ℕ) (rows : List ChunkAt) (chunks : List Chunk) (s : DiskState) → n < 2 ^ 64 → ((f : FileId) → s.images f (s.seen f)) → ReachedLast stream n rows chunks s → Exceeds n (files_of stream s.seen n) at → SeenDamaged F stream s n at
spoilt_last F stream n at rows chunks s lt law last exceeds =
    let r = last.reached in
    record {
      under = lt;
      counts = r.counts;
      below = tail_sound F stream n r.older s s.seen law r.follows r.below;
      wrong = inr (inr (record {
        begins_at = tail_begins F stream n r.older s s.seen law r.follows r.below;
        last = λ m more under counts. missing_counts stream m s s.seen law (omega (arith, more)) (last.above m (omega (arith, more)) under) counts;
        more = (exceeds F).0;
        record_is = (exceeds F).1;
      }));
    }

-- nothing is damaged where all is reached, and no more stands behind the last
pub all_sound : (F : Finder) (stream n : ℕ) (rows : List ChunkAt) (chunks : List Chunk) (s : DiskState) → n < 2 ^ 64 → ((f : FileId) → s.images f (s.seen f)) → ReachedLast stream n rows chunks s → IsEnough n (files_of stream s.seen n) → (k at : ℕ) → SeenDamaged F stream s k at → ⊥
all_sound F stream n rows chunks s lt law last enough =
    let r = last.reached in
    tail_undamaged F stream n r.older s s.seen law lt r.follows r.below last.above r.counts (enough F)

-- ---- numbers without records say nothing

-- files are the same, or have no records
abbrev pub SamePair : (ℕ → Pair) → (ℕ → Pair) → ℕ → Type 0
SamePair P Q n = (P n ≡ Q n) ⊎ ((0 < n) × (length (P n).1 ≤ 8) × (length (Q n).1 ≤ 8))

short_pair : (P Q : ℕ → Pair) (n : ℕ) → SamePair P Q n → (P n ≡ Q n) ⊎ ((length (P n).1 ≤ 8) × (length (Q n).1 ≤ 8))
short_pair P Q n (inl same) = inl same
short_pair P Q n (inr none) = inr (none.1, none.2)

pub below_pairs : (F : Finder) (n : ℕ) (P Q : ℕ → Pair) → ((i : ℕ) → SamePair P Q i) → log_below F n P ≡ log_below F n Q
below_pairs F n P Q all = ap (λ (r : Reading). r.chunks) (read_same F n P Q (λ i. short_pair P Q i (all i)))

pub counts_same : (P Q : ℕ → Pair) (n : ℕ) → SamePair P Q n → Counts n (P n) → (P n ≡ Q n) × Counts n (Q n)
counts_same P Q n (inl same) counts = (same, subst (λ (p : Pair). Counts n p) same counts)
counts_same P Q n (inr none) (inl is) = absurd (omega (arith, is, none.0))
counts_same P Q n (inr none) (inr long) = absurd (omega (arith, long, none.1))

pub same_back : (P Q : ℕ → Pair) (n : ℕ) → SamePair P Q n → SamePair Q P n
same_back P Q n (inl same) = inl (sym same)
same_back P Q n (inr none) = inr (none.0, none.2, none.1)

sound_same : (F : Finder) (P Q : ℕ → Pair) (n : ℕ) → ((i : ℕ) → SamePair P Q i) → P n ≡ Q n → IsSound F P n → IsSound F Q n
sound_same F P Q n all same sound = record {
  begins_at = sound.begins_at ∙ ap end_of (below_pairs F n P Q all);
  chunks = subst (λ (p : Pair). AreChunks (pair_log F n p) p) same sound.chunks;
}

-- so such removals neither make files damaged nor mend them
pub damaged_pairs : (F : Finder) (P Q : ℕ → Pair) (n at : ℕ) → ((i : ℕ) → SamePair P Q i) → IsDamaged F P n at → IsDamaged F Q n at
damaged_pairs F P Q n at all damaged =
    let here = counts_same P Q n (all n) damaged.counts in
    let begins : end_of (log_below F n P) ≡ end_of (log_below F n Q) = ap end_of (below_pairs F n P Q all) in
    record {
      under = damaged.under;
      counts = here.1;
      below = λ m lt counts.
          let back = counts_same Q P m (same_back P Q m (all m)) counts in
          sound_same F P Q m all (sym back.0) (damaged.below m lt back.1);
      wrong = elim damaged.wrong [
        | inl misplaced ↦ inl (record { apart = λ is. misplaced.apart (is ∙ sym begins); record_is = misplaced.record_is })
        | inr (inl broken) ↦ inr (inl (record {
          begins_at = broken.begins_at ∙ begins;
          later = broken.later;
          above = (broken.above.0, broken.above.1, (counts_same P Q broken.later (all broken.later) broken.above.2).1);
          chunks = λ are. broken.chunks (subst (λ (p : Pair). AreChunks (pair_log F n p) p) (sym here.0) are);
          record_is = broken.record_is ∙ ap (λ (p : Pair). length (pair_log F n p)) here.0;
        }))
        | inr (inr spoilt) ↦ inr (inr (record {
          begins_at = spoilt.begins_at ∙ begins;
          last = λ m more_than under counts. spoilt.last m more_than under (counts_same Q P m (same_back P Q m (all m)) counts).1;
          more = subst (λ (p : Pair). IsTooMuch n p (pair_log F n p)) here.0 spoilt.more;
          record_is = spoilt.record_is ∙ ap (λ (p : Pair). length (pair_log F n p)) here.0;
        }))
      ];
    }

seen_pairs : (stream : ℕ) (s t : DiskState) (n : ℕ) → SameOrNone stream s t n → SamePair (files_of stream t.seen) (files_of stream s.seen) n
seen_pairs stream s t n (inl same) = inl same
seen_pairs stream s t n (inr none) = inr (none.0, none.2, none.1)

pub damaged_same : (F : Finder) (stream : ℕ) (s t : DiskState) (n at : ℕ) → ((i : ℕ) → SameOrNone stream s t i) → SeenDamaged F stream t n at → SeenDamaged F stream s n at
damaged_same F stream s t n at all damaged = damaged_pairs F (files_of stream t.seen) (files_of stream s.seen) n at (λ i. seen_pairs stream s t i (all i)) damaged

pub damaged_again : (F : Finder) (stream : ℕ) (s t : DiskState) (n at : ℕ) → ((i : ℕ) → SameOrNone stream s t i) → SeenDamaged F stream s n at → SeenDamaged F stream t n at
damaged_again F stream s t n at all damaged = damaged_pairs F (files_of stream s.seen) (files_of stream t.seen) n at (λ i. same_back (files_of stream t.seen) (files_of stream s.seen) i (seen_pairs stream s t i (all i))) damaged
