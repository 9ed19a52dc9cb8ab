-- Cuts of a log.
use Rattle.std.proofs.Common.{◌≡◌, inl, inr, ℕ, zero, suc, ◌-◌, ◌≤◌, ◌<◌, ◌^◌, List, [], ◌∷◌, ◌++◌, length, take, drop, true, false, Some, slice_get, get_or, nat_le, refl, sym, ◌∙◌, ap, subst, arith, take-append-drop}
use Rattle.std.proofs.lemmas.List.{append-nil}
use Rattle.std.proofs.lemmas.List.Elements.{filter-append}
use Rattle.std.proofs.lemmas.Bool.{cases_lt}
use Rattle.std.proofs.lemmas.Option.{slice_get_past, slice_get_within, slice_get-get_or}
use Rattle.chunk_format.specs.declared.chunk.Chunk.{Chunk}
use Rattle.chunk_format.specs.Chunks.{end_of_chunk}
use Rattle.chunk_format.specs.Logs.{GoesOn, end_from, end_of}
use Rattle.chunk_format.proofs.LinkLaws.{chunk_goes_on, end_push}
use Rattle.disk_calls.specs.Disk.{DiskState}
use Rattle.segment_pairs.specs.Held.{Segment, all_chunks, Front}
use Rattle.segment_store.specs.declared.rows.ChunkAt.{ChunkAt}
use Rattle.segment_store.specs.Rows.{rows_of, LogStands, FrontEnds, IsKept}
use Rattle.segment_store.specs.Jobs.{Between}
use Rattle.epoch_coordinator.specs.MemberSteps.{cut_at}
use Rattle.segment_store.proofs.Table.{Chained, chained_behind, chained_front, chained_grows, chained_below, row_chunk}

is_less : (n m : ℕ) → n ≤ m → nat_le n m ≡ true
is_less n m le = grind arith

is_more : (n m : ℕ) → m < n → nat_le n m ≡ false
is_more n m lt = grind arith

keep_one : (k : ℕ) (c : Chunk) (cs : List Chunk) → end_of_chunk c ≤ k → cut_at k (c ∷ cs) ≡ c ∷ cut_at k cs
keep_one k c cs le = rw (is_less (end_of_chunk c) k le) refl

drop_one : (k : ℕ) (c : Chunk) (cs : List Chunk) → k < end_of_chunk c → cut_at k (c ∷ cs) ≡ cut_at k cs
drop_one k c cs lt = rw (is_more (end_of_chunk c) k lt) refl

-- chunks from an offset on all end behind it
pub all_cut : (k end : ℕ) (cs : List Chunk) → Chained end cs → k ≤ end → cut_at k cs ≡ []
all_cut k end [] chained le = refl
all_cut k end (c ∷ cs) chained le =
    let later : k < end_of_chunk c = omega (arith, le, chained.0, chunk_goes_on c chained.1) in
    drop_one k c cs later ∙ all_cut k (end_of_chunk c) cs chained.2 (omega (arith, later))

-- chunks that end at an offset or before it all stay
pub all_kept : (k end : ℕ) (cs : List Chunk) → Chained end cs → end_from end cs ≤ k → cut_at k cs ≡ cs
all_kept k end [] chained le = refl
all_kept k end (c ∷ cs) chained le =
    let sooner : end_of_chunk c ≤ k = omega (arith, le, chained_grows (end_of_chunk c) cs chained.2) in
    keep_one k c cs sooner ∙ ap (λ (l : List Chunk). c ∷ l) (all_kept k (end_of_chunk c) cs chained.2 le)

-- a cut at the end of a front leaves that front
pub cut_front : (k : ℕ) (front more : List Chunk) → Chained 0 (front ++ more) → end_of front ≡ k → cut_at k (front ++ more) ≡ front
cut_front k front more chained is =
    filter-append _ front more
    ∙ (λ i. all_kept k 0 front (chained_front 0 front more chained) (omega (arith, is)) i ++ all_cut k (end_of front) more (chained_behind 0 front more chained) (omega (arith, is)) i)
    ∙ append-nil front

pub later : (end i : ℕ) (cs : List Chunk) (c : Chunk) → Chained end cs → slice_get cs i ≡ Some c → end < end_of_chunk c
later end i [] c chained is = absurd (cc is)
later end zero (d ∷ cs) c chained is = let same : d ≡ c = cc is in omega (arith, chained.0, chunk_goes_on d chained.1, ap end_of_chunk same)
later end (suc i) (d ∷ cs) c chained is = omega (arith, chained.0, chunk_goes_on d chained.1, later (end_of_chunk d) i cs c chained.2 is)

take_one : (i : ℕ) (cs : List Chunk) (c : Chunk) → slice_get cs i ≡ Some c → take (suc i) cs ≡ take i cs ++ c ∷ []
take_one i [] c is = absurd (cc is)
take_one zero (d ∷ cs) c is = let same : d ≡ c = cc is in ap (λ (x : Chunk). x ∷ []) same
take_one (suc i) (d ∷ cs) c is = ap (λ (l : List Chunk). d ∷ l) (take_one i cs c is)

-- the first so many chunks end there
pub front_end : (segments : List Segment) (kept end : ℕ) → FrontEnds (rows_of segments) kept end → end_of (take kept (all_chunks segments)) ≡ end
front_end segments zero end ends = sym ends
front_end segments (suc i) end ends =
    let found = row_chunk segments i ends.row ends.is in
    ap end_of (take_one i (all_chunks segments) found.0 found.1) ∙ end_push (take i (all_chunks segments)) found.0 ∙ sym found.2 ∙ ends.ends

front_within : (segments : List Segment) (kept end : ℕ) → FrontEnds (rows_of segments) kept end → kept ≤ length (all_chunks segments)
front_within segments zero end ends = omega arith
front_within segments (suc i) end ends = let found = row_chunk segments i ends.row ends.is in omega (arith, slice_get_within (all_chunks segments) i found.0 found.1)

pub cut_is : (stream end kept : ℕ) (rows : List ChunkAt) (segments : List Segment) (s : DiskState) → LogStands stream rows segments s → FrontEnds rows kept end
    → (end_of (take kept (all_chunks segments)) ≡ end) × (cut_at end (all_chunks segments) ≡ take kept (all_chunks segments)) × (kept ≤ length (all_chunks segments))
cut_is stream end kept rows segments s stands ends =
    let all = all_chunks segments in
    let here : FrontEnds (rows_of segments) kept end = subst (λ (l : List ChunkAt). FrontEnds l kept end) stands.are ends in
    let is = front_end segments kept end here in
    let split : take kept all ++ drop kept all ≡ all = take-append-drop kept all in
    let chained : Chained 0 (take kept all ++ drop kept all) = subst (λ (l : List Chunk). Chained 0 l) (sym split) (chained_below stream (2 ^ 64) segments s stands.held) in
    (is, ap (λ (l : List Chunk). cut_at end l) (sym split) ∙ cut_front end (take kept all) (drop kept all) chained is, front_within segments kept end here)

pub drop_get : {A : Type 0} (k i : ℕ) (xs : List A) → k ≤ i → slice_get (drop k xs) (i - k) ≡ slice_get xs i
drop_get zero i xs le = ap (λ (n : ℕ). slice_get xs n) (no_less i)
  where
    no_less : (i : ℕ) → i - 0 ≡ i
    no_less i = omega arith
drop_get (suc k) zero xs le = absurd (omega (arith, le))
drop_get (suc k) (suc i) [] le = slice_get_past [] (suc i - suc k) (omega arith)
drop_get (suc k) (suc i) (x ∷ xs) le = ap (λ (n : ℕ). slice_get (drop k xs) n) (one_less i k) ∙ drop_get k i xs (omega (arith, le))
  where
    one_less : (i k : ℕ) → suc i - suc k ≡ i - k
    one_less i k = omega arith

-- how many chunks end at an offset or before it
pub kept_one : (stream end kept other : ℕ) (rows : List ChunkAt) (segments : List Segment) (s : DiskState) → LogStands stream rows segments s → FrontEnds rows kept end → IsKept end rows other → other ≡ kept
kept_one stream end kept other rows segments s stands ends is = elim (cases_lt other kept) [
  | inl lt ↦ absurd (not_less kept ends lt)
  | inr ge ↦ elim (cases_lt kept other) [ inl lt ↦ absurd (not_more lt) | inr le ↦ omega (arith, ge, le) ]
]
  where
    not_less : (kept : ℕ) → FrontEnds rows kept end → other < kept → ⊥
    not_less zero ends lt = absurd (omega (arith, lt))
    not_less (suc i) ends lt = absurd (omega (arith, ends.ends, is.behind i ends.row (omega (arith, lt)) ends.is))

    not_more : kept < other → ⊥
    not_more lt =
        let all = all_chunks segments in
        let i = other - 1 in
        let cut = cut_is stream end kept rows segments s stands ends in
        let row = get_or rows i (record { segment = 0; nth = 0; place = 0; after = 0; end = 0 }) in
        let there : slice_get rows i ≡ Some row = slice_get-get_or rows i (record { segment = 0; nth = 0; place = 0; after = 0; end = 0 }) (omega (arith, lt, is.within)) in
        let found = row_chunk segments i row (ap (λ (l : List ChunkAt). slice_get l i) (sym stands.are) ∙ there) in
        let chained : Chained 0 (take kept all ++ drop kept all) = subst (λ (l : List Chunk). Chained 0 l) (sym (take-append-drop kept all)) (chained_below stream (2 ^ 64) segments s stands.held) in
        let behind = later (end_of (take kept all)) (i - kept) (drop kept all) found.0 (chained_behind 0 (take kept all) (drop kept all) chained) (drop_get kept i all (omega (arith, lt)) ∙ found.1) in
        absurd (omega (arith, behind, cut.0, found.2, is.before row (omega (arith, lt)) there))

goes_on_take : (k m : ℕ) (cs : List Chunk) → k ≤ m → GoesOn (take k cs) (take m cs)
goes_on_take zero m cs le = (take m cs, refl)
goes_on_take (suc k) zero cs le = absurd (omega (arith, le))
goes_on_take (suc k) (suc m) [] le = ([], refl)
goes_on_take (suc k) (suc m) (c ∷ cs) le = let rest = goes_on_take k m cs (omega (arith, le)) in (rest.0, ap (λ (l : List Chunk). c ∷ l) rest.1)

-- a front of at least what a cut leaves is between
pub front_between : (end kept : ℕ) (all log : List Chunk) → cut_at end all ≡ take kept all → Front kept all log → Between end all log
front_between end kept all log cut front =
    let one = goes_on_take kept front.size all front.enough in
    record {
      cut = (one.0, front.is ∙ one.1 ∙ ap (λ (l : List Chunk). l ++ one.0) (sym cut));
      front = (drop front.size all, sym (take-append-drop front.size all) ∙ ap (λ (l : List Chunk). l ++ drop front.size all) (sym front.is));
    }
