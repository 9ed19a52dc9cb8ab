-- Where chunks of a log end, found by halves.
use Rattle.std.proofs.Common.{◌≡◌, inl, inr, ℕ, zero, suc, ◌≤◌, ◌<◌, ◌^◌, List, [], ◌∷◌, ◌++◌, length, take, Some, slice_get, get_or, sym, ◌∙◌, ap, subst, arith, take-append-drop, length-append, append_assoc, drop}
use Rattle.std.proofs.lemmas.Bool.{cases_lt, eq-eqb}
use Rattle.std.proofs.lemmas.Option.{slice_get_within, slice_get-get_or, get_or_from_slice_get}
use Rattle.std.proofs.Math.Seq.{take-append_seam}
use Rattle.std.specs.List.Sorted.{IsPartitionPoint}
use Rattle.std.specs.Prelude.{true, false, ltb, nat_eq, IsTrue}
use Rattle.disk_calls.specs.Disk.{DiskState}
use Rattle.chunk_format.specs.declared.chunk.Chunk.{Chunk}
use Rattle.chunk_format.specs.Chunks.{end_of_chunk}
use Rattle.chunk_format.specs.Logs.{GoesOn, end_of}
use Rattle.chunk_format.proofs.LinkLaws.{end_push}
use Rattle.segment_pairs.specs.Held.{Segment, all_chunks}
use Rattle.segment_store.specs.declared.rows.ChunkAt.{ChunkAt}
use Rattle.segment_store.specs.Rows.{rows_of, LogStands, FrontEnds, EndsAt}
use Rattle.segment_store.specs.Stores.{EndsRise, NoneBefore}
use Rattle.segment_store.proofs.Table.{Chained, chained_below, length-rows, row_chunk, last_split, get_behind}
use Rattle.segment_store.proofs.Cutting.{later, front_end}

at_most : (n m : ℕ) → ltb n m ≡ true → n < m
at_most n m is = grind arith

at_least : (n m : ℕ) → ltb n m ≡ false → m ≤ n
at_least n m is = grind arith

pub none_before : (end : ℕ) (rows : List ChunkAt) (at : ℕ) → IsPartitionPoint (λ row. ltb row.end end ≡ true) (λ row. ltb row.end end ≡ false) rows at → NoneBefore end rows at
none_before end rows at point = (
  (λ k d low high. at_most (get_or rows k d).end end (point.0 k d low high)),
  (λ k d low high. at_least (get_or rows k d).end end (point.1 k d low high)),
)

-- the row where a chunk ends is the first that doesn't end before
pub end_there : (rows : List ChunkAt) (at end kept : ℕ) → NoneBefore end rows at → EndsRise rows → 0 < end → FrontEnds rows kept end → EndsAt rows at end
end_there rows at end zero none rise some ends = absurd (omega (arith, some, ends))
end_there rows at end (suc n) none rise some ends =
    let within : n < length rows = slice_get_within rows n ends.row ends.is in
    let there : get_or rows n ends.row ≡ ends.row = get_or_from_slice_get rows n ends.row ends.row ends.is in
    let is : (get_or rows n ends.row).end ≡ end = ap (λ (r : ChunkAt). r.end) there ∙ ends.ends in
    elim (cases_lt n at) [
      | inl lt ↦ absurd (omega (arith, is, none.0 n ends.row (omega arith) lt))
      | inr ge ↦
          let low = none.1 at ends.row (omega arith) (omega (arith, ge, within)) in
          let high = rise at n ends.row ge within in
          record { row = get_or rows at ends.row; is = slice_get-get_or rows at ends.row (omega (arith, ge, within)); ends = omega (arith, low, high, is) }
    ]

-- chunks that follow one another end one behind the other
ends_chained : (end i j : ℕ) (cs : List Chunk) (c d : Chunk) → Chained end cs → i ≤ j → slice_get cs i ≡ Some c → slice_get cs j ≡ Some d → end_of_chunk c ≤ end_of_chunk d
ends_chained end i j [] c d chained le one two = absurd (cc one)
ends_chained end zero zero (x ∷ cs) c d chained le one two = let a : x ≡ c = cc one in let b : x ≡ d = cc two in omega (arith, ap end_of_chunk a, ap end_of_chunk b)
ends_chained end zero (suc j) (x ∷ cs) c d chained le one two = let a : x ≡ c = cc one in omega (arith, ap end_of_chunk a, later (end_of_chunk x) j cs d chained.2 two)
ends_chained end (suc i) zero (x ∷ cs) c d chained le one two = absurd (omega (arith, le))
ends_chained end (suc i) (suc j) (x ∷ cs) c d chained le one two = ends_chained (end_of_chunk x) i j cs c d chained.2 (omega (arith, le)) one two

-- the ends of a log that stands rise
pub ends_rise : (stream : ℕ) (rows : List ChunkAt) (segments : List Segment) (s : DiskState) → LogStands stream rows segments s → EndsRise rows
ends_rise stream rows segments s stands = subst EndsRise (sym stands.are) rises
  where
    rises : EndsRise (rows_of segments)
    rises i j d le lt =
        let one = row_chunk segments i (get_or (rows_of segments) i d) (slice_get-get_or (rows_of segments) i d (omega (arith, le, lt))) in
        let two = row_chunk segments j (get_or (rows_of segments) j d) (slice_get-get_or (rows_of segments) j d lt) in
        omega (arith, one.2, two.2, ends_chained 0 i j (all_chunks segments) one.0 two.0 (chained_below stream (2 ^ 64) segments s stands.held) le one.1 two.1)

-- a job continues a log that stands exactly where it continues its chunks
take_front : (front chunks : List Chunk) → GoesOn front chunks → take (length front) chunks ≡ front
take_front front chunks (more, is) = ap (λ (l : List Chunk). take (length front) l) is ∙ take-append_seam front more

pub front_ends : (stream kept end : ℕ) (rows : List ChunkAt) (segments : List Segment) (s : DiskState) → LogStands stream rows segments s → FrontEnds rows kept end → (front : List Chunk) × GoesOn front (all_chunks segments) × (end_of front ≡ end)
front_ends stream kept end rows segments s stands ends =
    let chunks = all_chunks segments in
    (take kept chunks, (drop kept chunks, sym (take-append-drop kept chunks)), front_end segments kept end (subst (λ (l : List ChunkAt). FrontEnds l kept end) stands.are ends))

row_there : (segments : List Segment) (i : ℕ) (c : Chunk) → slice_get (all_chunks segments) i ≡ Some c → EndsAt (rows_of segments) i (end_of_chunk c)
row_there segments i c is =
    let within : i < length (rows_of segments) = omega (arith, slice_get_within (all_chunks segments) i c is, length-rows segments) in
    let row = get_or (rows_of segments) i (record { segment = 0; nth = 0; place = 0; after = 0; end = 0 }) in
    let there = slice_get-get_or (rows_of segments) i (record { segment = 0; nth = 0; place = 0; after = 0; end = 0 }) within in
    let found = row_chunk segments i row there in
    let same : found.0 ≡ c = cc (sym found.1 ∙ is) in
    record { row = row; is = there; ends = found.2 ∙ ap end_of_chunk same }

pub ends_front : (stream end : ℕ) (rows : List ChunkAt) (segments : List Segment) (s : DiskState) → LogStands stream rows segments s → (front : List Chunk) → GoesOn front (all_chunks segments) → end_of front ≡ end → FrontEnds rows (length front) end
ends_front stream end rows segments s stands front goes is = subst (λ (l : List ChunkAt). FrontEnds l (length front) end) (sym stands.are) (elim (last_split front) [
  | inl none ↦ subst (λ (l : List Chunk). FrontEnds (rows_of segments) (length l) end) (sym none) (sym is ∙ ap end_of none)
  | inr (less, c, split) ↦
      let one : length front ≡ suc (length less) = omega (arith, ap length split, length-append less (c ∷ [])) in
      let at : slice_get (all_chunks segments) (length less) ≡ Some c = ap (λ (l : List Chunk). slice_get l (length less)) (goes.1 ∙ ap (λ (l : List Chunk). l ++ goes.0) split ∙ append_assoc less (c ∷ []) goes.0) ∙ ap (λ (k : ℕ). slice_get (less ++ c ∷ goes.0) k) (omega arith) ∙ get_behind less (c ∷ goes.0) 0 in
      let last : end_of_chunk c ≡ end = sym (end_push less c) ∙ ap end_of (sym split) ∙ is in
      subst (λ (k : ℕ). FrontEnds (rows_of segments) k end) (sym one) (subst (λ (e : ℕ). EndsAt (rows_of segments) (length less) e) last (row_there segments (length less) c at))
])

-- ---- what is told of a row

same_if : (a b : ℕ) → IsTrue (nat_eq a b) → a ≡ b
same_if a b is = grind arith

if_same : (a b : ℕ) → a ≡ b → IsTrue (nat_eq a b)
if_same a b is = eq-eqb a b is

there_if : (rows : List ChunkAt) (at : ℕ) (row d : ChunkAt) → true ≡ ltb at (length rows) → row ≡ get_or rows at d → slice_get rows at ≡ Some row
there_if rows at row d within is = slice_get-get_or rows at d (at_most at (length rows) (sym within)) ∙ ap Some (sym is)

pub found_end : (rows : List ChunkAt) (at end : ℕ) (row d : ChunkAt) → true ≡ ltb at (length rows) → row ≡ get_or rows at d → IsTrue (nat_eq row.end end) → (kept : ℕ) × FrontEnds rows kept end
found_end rows at end row d within there is = (suc at, record { row = row; is = there_if rows at row d within there; ends = same_if row.end end is })

pub has_found : (rows : List ChunkAt) (at end kept : ℕ) (row d : ChunkAt) → true ≡ ltb at (length rows) → row ≡ get_or rows at d → NoneBefore end rows at → EndsRise rows → 0 < end → FrontEnds rows kept end → IsTrue (nat_eq row.end end)
has_found rows at end kept row d within there none rise some ends =
    let found = end_there rows at end kept none rise some ends in
    let same : found.row ≡ row = cc (sym found.is ∙ there_if rows at row d within there) in
    if_same row.end end (ap (λ (r : ChunkAt). r.end) (sym same) ∙ found.ends)
