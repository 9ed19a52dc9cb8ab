-- The table of a log's chunks.
use Rattle.std.proofs.Common.{◌≡◌, ◌⊎◌, inl, inr, ℕ, zero, suc, ◌+◌, ◌-◌, ◌≤◌, ◌<◌, List, [], ◌∷◌, ◌++◌, length, Some, slice_get, refl, sym, ◌∙◌, ap, subst, arith, length-append}
use Rattle.std.proofs.lemmas.Bool.{cases_lt}
use Rattle.disk_calls.specs.Disk.{DiskState}
use Rattle.chunk_format.specs.declared.chunk.Chunk.{Chunk}
use Rattle.chunk_format.specs.Chunks.{end_of_chunk, IsChunk}
use Rattle.chunk_format.specs.Logs.{end_from, end_of}
use Rattle.chunk_format.proofs.LinkLaws.{chunk_goes_on}
use Rattle.segment_pairs.specs.Log.{spelled, size_of, Chain, flat, segment_of}
use Rattle.segment_pairs.specs.Held.{Segment, all_chunks, HeldBelow}
use Rattle.segment_pairs.proofs.Pairs.{length-segment, end_from-append}
use Rattle.segment_store.specs.declared.rows.ChunkAt.{ChunkAt}
use Rattle.segment_store.specs.Rows.{row_of, rows_at, rows_of, IsFilled}

pub length-rows_at : (n nth place : ℕ) (cs : List Chunk) → length (rows_at n nth place cs) ≡ length cs
length-rows_at n nth place [] = refl
length-rows_at n nth place (c ∷ cs) = ap suc (length-rows_at n (nth + 1) (place + size_of c) cs)

pub length-rows : (segments : List Segment) → length (rows_of segments) ≡ length (all_chunks segments)
length-rows [] = refl
length-rows (x ∷ older) = omega (arith, length-append (rows_of older) (rows_at x.number 0 8 x.chunks), length-append (all_chunks older) x.chunks, length-rows older, length-rows_at x.number 0 8 x.chunks)

pub rows-append : (n nth place : ℕ) (cs ds : List Chunk) → rows_at n nth place (cs ++ ds) ≡ rows_at n nth place cs ++ rows_at n (nth + length cs) (place + length (flat cs)) ds
rows-append n nth place [] ds = λ i. rows_at n (one i) (two i) ds
  where
    one : nth ≡ nth + 0
    one = omega arith

    two : place ≡ place + 0
    two = omega arith
rows-append n nth place (c ∷ cs) ds =
    let one : (nth + 1) + length cs ≡ nth + suc (length cs) = omega arith in
    let two : (place + size_of c) + length (flat cs) ≡ place + length (spelled c ++ flat cs) = omega (arith, length-append (spelled c) (flat cs)) in
    ap (λ (l : List ChunkAt). row_of n nth place c ∷ l) (rows-append n (nth + 1) (place + size_of c) cs ds)
    ∙ (λ i. row_of n nth place c ∷ (rows_at n (nth + 1) (place + size_of c) cs ++ rows_at n (one i) (two i) ds))

pub get_behind : {A : Type 0} (xs ys : List A) (i : ℕ) → slice_get (xs ++ ys) (length xs + i) ≡ slice_get ys i
get_behind [] ys i = ap (λ (k : ℕ). slice_get ys k) (omega arith)
get_behind (x ∷ xs) ys i = ap (λ (k : ℕ). slice_get (x ∷ (xs ++ ys)) k) (suc_more (length xs) i) ∙ get_behind xs ys i
  where
    suc_more : (a b : ℕ) → suc a + b ≡ suc (a + b)
    suc_more a b = omega arith

pub get_front : {A : Type 0} (xs ys : List A) (i : ℕ) → i < length xs → slice_get (xs ++ ys) i ≡ slice_get xs i
get_front [] ys i lt = absurd (omega (arith, lt))
get_front (x ∷ xs) ys zero lt = refl
get_front (x ∷ xs) ys (suc i) lt = get_front xs ys i (omega (arith, lt))

-- the row behind some chunks of a segment
pub row_behind : (n : ℕ) (cs : List Chunk) (c : Chunk) (ds : List Chunk) → slice_get (rows_at n 0 8 (cs ++ c ∷ ds)) (length cs) ≡ Some (row_of n (length cs) (8 + length (flat cs)) c)
row_behind n cs c ds =
    let at : length cs ≡ length (rows_at n 0 8 cs) + 0 = omega (arith, length-rows_at n 0 8 cs) in
    (λ i. slice_get (rows-append n 0 8 cs (c ∷ ds) i) (at i)) ∙ get_behind (rows_at n 0 8 cs) (rows_at n (0 + length cs) (8 + length (flat cs)) (c ∷ ds)) 0
    ∙ ap (λ (k : ℕ). Some (row_of n k (8 + length (flat cs)) c)) (zero_more (length cs))
  where
    zero_more : (k : ℕ) → 0 + k ≡ k
    zero_more k = omega arith

-- chunks that follow one another from an offset on
abbrev pub Chained : ℕ → List Chunk → Type 0
Chained end [] = Unit {0}
Chained end (c ∷ cs) = (c.first ≡ end) × IsChunk c × Chained (end_of_chunk c) cs

pub chained_chain : (place end : ℕ) (cs : List Chunk) → Chain place end cs → Chained end cs
chained_chain place end [] fit = tt
chained_chain place end (c ∷ cs) fit = (fit.1, fit.2, chained_chain (place + size_of c) (end_of_chunk c) cs fit.3)

pub chained_join : (end : ℕ) (xs ys : List Chunk) → Chained end xs → Chained (end_from end xs) ys → Chained end (xs ++ ys)
chained_join end [] ys a b = b
chained_join end (x ∷ xs) ys a b = (a.0, a.1, chained_join (end_of_chunk x) xs ys a.2 b)

pub chained_front : (end : ℕ) (xs ys : List Chunk) → Chained end (xs ++ ys) → Chained end xs
chained_front end [] ys a = tt
chained_front end (x ∷ xs) ys a = (a.0, a.1, chained_front (end_of_chunk x) xs ys a.2)

pub chained_behind : (end : ℕ) (xs ys : List Chunk) → Chained end (xs ++ ys) → Chained (end_from end xs) ys
chained_behind end [] ys a = a
chained_behind end (x ∷ xs) ys a = chained_behind (end_of_chunk x) xs ys a.2

pub chained_grows : (end : ℕ) (cs : List Chunk) → Chained end cs → end + length cs ≤ end_from end cs
chained_grows end [] a = omega arith
chained_grows end (c ∷ cs) a = omega (arith, a.0, chunk_goes_on c a.1, chained_grows (end_of_chunk c) cs a.2)

pub chained_below : (stream top : ℕ) (segments : List Segment) (s : DiskState) → HeldBelow stream top segments s → Chained 0 (all_chunks segments)
chained_below stream top [] s held = tt
chained_below stream top (x ∷ older) s held =
    chained_join 0 (all_chunks older) x.chunks (chained_below stream x.number older s held.below) (subst (λ (k : ℕ). Chained k x.chunks) held.follows (chained_chain 8 x.number x.chunks held.stands.chain))

-- where a row ends, its chunk does
pub row_chunk_at : (n nth place : ℕ) (cs : List Chunk) (i : ℕ) (row : ChunkAt) → slice_get (rows_at n nth place cs) i ≡ Some row → (c : Chunk) × (slice_get cs i ≡ Some c) × (row.end ≡ end_of_chunk c)
row_chunk_at n nth place [] i row is = absurd (cc is)
row_chunk_at n nth place (c ∷ cs) zero row is = let same : row_of n nth place c ≡ row = cc is in (c, refl, sym (ap (λ (r : ChunkAt). r.end) same))
row_chunk_at n nth place (c ∷ cs) (suc i) row is = row_chunk_at n (nth + 1) (place + size_of c) cs i row is

pub row_chunk : (segments : List Segment) (i : ℕ) (row : ChunkAt) → slice_get (rows_of segments) i ≡ Some row → (c : Chunk) × (slice_get (all_chunks segments) i ≡ Some c) × (row.end ≡ end_of_chunk c)
row_chunk [] i row is = absurd (cc is)
row_chunk (x ∷ older) i row is = elim (cases_lt i (length (rows_of older))) [
  | inl lt ↦
      let found = row_chunk older i row (sym (get_front (rows_of older) (rows_at x.number 0 8 x.chunks) i lt) ∙ is) in
      (found.0, get_front (all_chunks older) x.chunks i (omega (arith, lt, length-rows older)) ∙ found.1, found.2)
  | inr ge ↦
      let k = i - length (rows_of older) in
      let at : i ≡ length (rows_of older) + k = omega (arith, ge) in
      let found = row_chunk_at x.number 0 8 x.chunks k row (sym (get_behind (rows_of older) (rows_at x.number 0 8 x.chunks) k) ∙ ap (λ (j : ℕ). slice_get (rows_of older ++ rows_at x.number 0 8 x.chunks) j) (sym at) ∙ is) in
      let there : i ≡ length (all_chunks older) + k = omega (arith, at, length-rows older) in
      (found.0, ap (λ (j : ℕ). slice_get (all_chunks older ++ x.chunks) j) there ∙ get_behind (all_chunks older) x.chunks k ∙ found.1, found.2)
]

-- the last chunk of a list
pub last_split : {A : Type 0} (xs : List A) → (xs ≡ []) ⊎ ((front : List A) × (x : A) × (xs ≡ front ++ x ∷ []))
last_split [] = inl refl
last_split (x ∷ xs) = elim (last_split xs) [
  | inl none ↦ inr ([], x, ap (λ l. x ∷ l) none)
  | inr some ↦ inr (x ∷ some.0, some.1, ap (λ l. x ∷ l) some.2)
]

-- of a segment that has chunks the last row tells where it ends
pub record LastRow (segments : List Segment) (x : Segment) (row : ChunkAt) : Type 0 where
  pub segment : row.segment ≡ x.number
  pub nth : row.nth + 1 ≡ length x.chunks
  pub after : row.after ≡ length (segment_of x.chunks)
  pub end : row.end ≡ end_from x.number x.chunks

pub last_row : (x : Segment) (older : List Segment) (row : ChunkAt) → 0 < length x.chunks → slice_get (rows_of (x ∷ older)) (length (rows_of (x ∷ older)) - 1) ≡ Some row → LastRow (x ∷ older) x row
last_row x older row some is = elim (last_split x.chunks) [
  | inl none ↦ absurd (omega (arith, some, ap length none))
  | inr (front, c, split) ↦
      let rows = rows_at x.number 0 8 x.chunks in
      let len : length rows ≡ length front + 1 = omega (arith, length-rows_at x.number 0 8 x.chunks, ap length split, length-append front (c ∷ [])) in
      let at : length (rows_of (x ∷ older)) - 1 ≡ length (rows_of older) + length front = omega (arith, len, length-append (rows_of older) rows) in
      let here : slice_get rows (length front) ≡ Some row = sym (get_behind (rows_of older) rows (length front)) ∙ ap (λ (j : ℕ). slice_get (rows_of older ++ rows) j) (sym at) ∙ is in
      let same : row_of x.number (length front) (8 + length (flat front)) c ≡ row = cc (sym (ap (λ (l : List Chunk). slice_get (rows_at x.number 0 8 l) (length front)) split ∙ row_behind x.number front c []) ∙ here) in
      let all : length (segment_of x.chunks) ≡ 8 + length (flat front) + size_of c =
      omega (arith, ap (λ (l : List Chunk). length (segment_of l)) split, length-segment (front ++ c ∷ []), flat_push front c) in
      let end : end_from x.number x.chunks ≡ end_of_chunk c = ap (λ (l : List Chunk). end_from x.number l) split ∙ end_from-append x.number front (c ∷ []) in
      record {
        segment = sym (ap (λ (r : ChunkAt). r.segment) same);
        nth = omega (arith, ap (λ (r : ChunkAt). r.nth) same, ap length split, length-append front (c ∷ []));
        after = omega (arith, ap (λ (r : ChunkAt). r.after) same, all);
        end = sym (ap (λ (r : ChunkAt). r.end) same) ∙ sym end;
      }
]
  where
    flat_push : (front : List Chunk) (c : Chunk) → length (flat (front ++ c ∷ [])) ≡ length (flat front) + size_of c
    flat_push [] c = omega (arith, length-append (spelled c) [])
    flat_push (d ∷ front) c = omega (arith, length-append (spelled d) (flat (front ++ c ∷ [])), length-append (spelled d) (flat front), flat_push front c)

-- older segments have chunks
pub filled_below : (stream top : ℕ) (x : Segment) (older : List Segment) (s : DiskState) → HeldBelow stream top (x ∷ older) s → (older ≡ []) ⊎ IsFilled older
filled_below stream top x [] s held = inl refl
filled_below stream top x (y ∷ older) s held =
    let end : end_of (all_chunks (y ∷ older)) ≡ end_from y.number y.chunks = end_from-append 0 (all_chunks older) y.chunks ∙ ap (λ (k : ℕ). end_from k y.chunks) (sym held.below.follows) in
    inr (inr (some y.number y.chunks (omega (arith, held.follows, end, held.below.under))))
  where
    some : (n : ℕ) (cs : List Chunk) → n < end_from n cs → 0 < length cs
    some n [] lt = absurd (omega (arith, lt))
    some n (c ∷ cs) lt = omega arith
