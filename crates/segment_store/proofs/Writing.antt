-- Writing behind a log.
use Rattle.std.proofs.Common.{◌≡◌, ◌⊎◌, inl, inr, ℕ, zero, suc, ◌+◌, ◌*◌, ◌-◌, ◌≤◌, ◌<◌, ◌^◌, List, [], ◌∷◌, ◌++◌, length, Bool, true, false, Some, None, Result, slice_get, get_or, refl, sym, ◌∙◌, ap, subst, arith, append_assoc, length-append, leb, if◌then◌else◌}
use Rattle.std.specs.Prelude.{OnOk}
use Rattle.std.proofs.lemmas.Bool.{le-leb, lt-leb}
use Rattle.std.proofs.lemmas.Option.{slice_get-get_or}
use Rattle.disk_calls.specs.Disk.{DiskState}
use Rattle.chunk_format.specs.declared.chunk.Chunk.{Chunk}
use Rattle.chunk_format.specs.Chunks.{end_of_chunk, IsChunk}
use Rattle.chunk_format.specs.Logs.{end_from, end_of}
use Rattle.segment_pairs.specs.Log.{size_of, Chain, flat, segment_of}
use Rattle.segment_pairs.specs.Held.{Segment, all_chunks, Held, EachLog, OldOrNew, CanWrite, CanBegin, Filled}
use Rattle.segment_pairs.proofs.Reading.{some_bytes}
use Rattle.segment_pairs.proofs.Pairs.{length-segment, length-index, end_from-append}
use Rattle.segment_pairs.proofs.Many.{log_held}
use Rattle.segment_store.specs.declared.rows.ChunkAt.{ChunkAt}
use Rattle.segment_store.specs.declared.rows.LastAt.{LastAt}
use Rattle.segment_store.specs.Rows.{row_of, rows_at, rows_of, LogStands, FrontEnds, CanLook, IsLast, grown}
use Rattle.segment_store.proofs.Table.{length-rows, rows-append, last_row}

-- the places of a chain are u32, so it is short
chain_short : (place end : ℕ) (cs : List Chunk) → Chain place end cs → (cs ≡ []) ⊎ (place + length cs ≤ 2 ^ 32)
chain_short place end [] fit = inl refl
chain_short place end (c ∷ cs) fit = elim (chain_short (place + size_of c) (end_of_chunk c) cs fit.3) [
  | inl none ↦ inr (omega (arith, fit.0, ap length none))
  | inr le ↦ inr (omega (arith, le, some_bytes c))
]

pub chain_few : (place end : ℕ) (cs : List Chunk) → Chain place end cs → length cs < 2 ^ 40
chain_few place end cs fit = elim (chain_short place end cs fit) [ inl none ↦ omega (arith, ap length none) | inr le ↦ omega (arith, le) ]

pub can_look : (stream : ℕ) (rows : List ChunkAt) (x : Segment) (older : List Segment) (s : DiskState) → LogStands stream rows (x ∷ older) s → CanLook x older
can_look stream rows x older s stands = record {
  filled = stands.filled;
  first = λ none. stands.held.follows ∙ ap (λ (l : List Segment). end_of (all_chunks l)) none;
  few = chain_few 8 x.number x.chunks stands.held.stands.chain;
}

no_chunks : (cs : List Chunk) → length cs ≡ 0 → cs ≡ []
no_chunks [] is = refl
no_chunks (c ∷ cs) is = absurd (omega (arith, is))

-- an empty table
pub no_last : (rows : List ChunkAt) (x : Segment) (older : List Segment) → length rows ≡ 0 → rows ≡ rows_of (x ∷ older) → CanLook x older → IsLast x (record { segment = 0; count = 0; size = 8 })
no_last rows x older none are can =
    let len : length (all_chunks older) + length x.chunks ≡ 0 = omega (arith, none, ap length are, length-rows (x ∷ older), length-append (all_chunks older) x.chunks) in
    let cs : x.chunks ≡ [] = no_chunks x.chunks (omega (arith, len)) in
    elim can.filled [
      | inl only ↦ record { segment = sym (can.first only); count = sym (ap length cs); size = omega (arith, length-segment x.chunks, ap (λ (l : List Chunk). length (flat l)) cs) }
      | inr some ↦ absurd (omega (arith, some, len))
    ]

row_of_one : (x : Segment) (cs : List Chunk) (row : ChunkAt) → slice_get ([] ++ rows_at x.number 0 8 cs) (length ([] ++ rows_at x.number 0 8 cs) - 1) ≡ Some row → 0 < length cs
row_of_one x [] row is = absurd (cc is)
row_of_one x (c ∷ cs) row is = omega arith

pub some_if : (x : Segment) (older : List Segment) (row : ChunkAt) → slice_get (rows_of (x ∷ older)) (length (rows_of (x ∷ older)) - 1) ≡ Some row → CanLook x older → 0 < length x.chunks
some_if x [] row is can = row_of_one x x.chunks row is
some_if x (y ∷ older) row is can = elim can.filled [ inl only ↦ absurd (cc only) | inr some ↦ some ]

-- and one with a last row
pub some_last : (rows : List ChunkAt) (row : ChunkAt) (count : ℕ) (x : Segment) (older : List Segment) → slice_get rows (length rows - 1) ≡ Some row → (row.nth < 2 ^ 63 → count ≡ row.nth + 1) → rows ≡ rows_of (x ∷ older) → CanLook x older → IsLast x (record { segment = row.segment; count = count; size = row.after })
some_last rows row count x older is counts are can =
    let here : slice_get (rows_of (x ∷ older)) (length (rows_of (x ∷ older)) - 1) ≡ Some row = ap (λ (l : List ChunkAt). slice_get l (length l - 1)) (sym are) ∙ is in
    let last = last_row x older row (some_if x older row here can) here in
    record { segment = last.segment; count = counts (omega (arith, last.nth, can.few)) ∙ last.nth; size = last.after }

-- ---- the last segment and a chunk

pub old_log : (stream : ℕ) (rows : List ChunkAt) (segments : List Segment) (c : Chunk) (s : DiskState) → LogStands stream rows segments s → EachLog stream (OldOrNew (all_chunks segments) c) s
old_log stream rows segments c s stands F pick picks = inl (log_held F stream segments s pick stands.held picks)

end_of_last : (x : Segment) (older : List Segment) (e : ℕ) (n : ℕ) → n ≡ length (rows_of (x ∷ older)) → FrontEnds (rows_of (x ∷ older)) n e → CanLook x older → e ≡ end_from x.number x.chunks
end_of_last x older e zero len ends can =
    let all : length (all_chunks older) + length x.chunks ≡ 0 = omega (arith, len, length-rows (x ∷ older), length-append (all_chunks older) x.chunks) in
    let cs : x.chunks ≡ [] = no_chunks x.chunks (omega (arith, all)) in
    elim can.filled [
      | inl only ↦ ends ∙ sym (can.first only) ∙ sym (ap (λ (l : List Chunk). end_from x.number l) cs)
      | inr some ↦ absurd (omega (arith, some, all))
    ]
end_of_last x older e (suc n) len ends can =
    let at : n ≡ length (rows_of (x ∷ older)) - 1 = omega (arith, len) in
    let here : slice_get (rows_of (x ∷ older)) (length (rows_of (x ∷ older)) - 1) ≡ Some ends.row = ap (λ (k : ℕ). slice_get (rows_of (x ∷ older)) k) (sym at) ∙ ends.is in
    sym ends.ends ∙ (last_row x older ends.row (some_if x older ends.row here can) here).end

pub front_ends : (rows : List ChunkAt) (x : Segment) (older : List Segment) (e : ℕ) → rows ≡ rows_of (x ∷ older) → FrontEnds rows (length rows) e → CanLook x older → e ≡ end_from x.number x.chunks
front_ends rows x older e are ends can = end_of_last x older e (length rows) (ap length are) (subst (λ (l : List ChunkAt). FrontEnds l (length rows) e) are ends) can

-- the chunk may be written there
pub can_write : (stream : ℕ) (rows : List ChunkAt) (x : Segment) (older : List Segment) (last : LastAt) (c : Chunk) (index_place : ℕ) (s : DiskState) → LogStands stream rows (x ∷ older) s → IsLast x last → IsChunk c → FrontEnds rows (length rows) c.first → (last.count < 2 ^ 40 → index_place ≡ 8 + 29 * last.count)
    → CanWrite stream last.segment x.chunks c last.size index_place s
can_write stream rows x older last c index_place s stands is chunk ends index =
    let can = can_look stream rows x older s stands in
    let few : last.count < 2 ^ 40 = omega (arith, is.count, can.few) in
    let here : CanWrite stream x.number x.chunks c last.size index_place s = record {
      stands = stands.held.stands;
      is = chunk;
      first = front_ends rows x older c.first stands.are ends can;
      at = is.size;
      index_at = omega (arith, index few, is.count, length-index x.chunks);
    } in
    subst (λ (n : ℕ). CanWrite stream n x.chunks c last.size index_place s) (sym is.segment) here

pub held_at : (stream n : ℕ) (x : Segment) (older : List Segment) (s : DiskState) → n ≡ x.number → Held stream (x ∷ older) s → Held stream (record { number = n; chunks = x.chunks } ∷ older) s
held_at stream n x older s is held = subst (λ (k : ℕ). Held stream (record { number = k; chunks = x.chunks } ∷ older) s) (sym is) held

if_false : (b : Bool) (a d : List Segment) → b ≡ false → (if b then a else d) ≡ d
if_false b a d is = ap (λ (t : Bool). if t then a else d) is

if_true : (b : Bool) (a d : List Segment) → b ≡ true → (if b then a else d) ≡ a
if_true b a d is = ap (λ (t : Bool). if t then a else d) is

grown_here : (x : Segment) (older : List Segment) (c : Chunk) → length (segment_of x.chunks) < 262144 → grown (x ∷ older) c ≡ record { number = x.number; chunks = x.chunks ++ c ∷ [] } ∷ older
grown_here x older c lt = if_false (leb 262144 (length (segment_of x.chunks))) (record { number = c.first; chunks = c ∷ [] } ∷ x ∷ older) (record { number = x.number; chunks = x.chunks ++ c ∷ [] } ∷ older) (lt-leb 262144 (length (segment_of x.chunks)) lt)

grown_next : (x : Segment) (older : List Segment) (c : Chunk) → 262144 ≤ length (segment_of x.chunks) → grown (x ∷ older) c ≡ record { number = c.first; chunks = c ∷ [] } ∷ x ∷ older
grown_next x older c ge = if_true (leb 262144 (length (segment_of x.chunks))) (record { number = c.first; chunks = c ∷ [] } ∷ x ∷ older) (record { number = x.number; chunks = x.chunks ++ c ∷ [] } ∷ older) (le-leb 262144 (length (segment_of x.chunks)) ge)

-- the table with a chunk more of the last segment
pub chunk_added : (stream : ℕ) (rows more : List ChunkAt) (row : ChunkAt) (x : Segment) (older : List Segment) (last : LastAt) (c : Chunk) (s t : DiskState) → LogStands stream rows (x ∷ older) s → IsLast x last → last.size < 262144
    → row ≡ row_of last.segment last.count last.size c → more ≡ rows ++ row ∷ [] → Held stream (record { number = last.segment; chunks = x.chunks ++ c ∷ [] } ∷ older) t → LogStands stream more (grown (x ∷ older) c) t
chunk_added stream rows more row x older last c s t stands is lt row_is more_is held =
    let cs = x.chunks in
    let here : row ≡ row_of x.number (0 + length cs) (8 + length (flat cs)) c = row_is ∙ (λ i. row_of (is.segment i) (count i) (size i) c) in
    let y : Segment = record { number = x.number; chunks = cs ++ c ∷ [] } in
    let are : more ≡ rows_of (y ∷ older) =
    more_is
    ∙ (λ i. stands.are i ++ here i ∷ [])
    ∙ append_assoc (rows_of older) (rows_at x.number 0 8 cs) (row_of x.number (0 + length cs) (8 + length (flat cs)) c ∷ [])
    ∙ ap (λ (l : List ChunkAt). rows_of older ++ l) (sym (rows-append x.number 0 8 cs (c ∷ []))) in
    let all : LogStands stream more (y ∷ older) t = record {
      held = subst (λ (n : ℕ). Held stream (record { number = n; chunks = cs ++ c ∷ [] } ∷ older) t) is.segment held;
      filled = inr (omega (arith, length-append cs (c ∷ [])));
      are = are;
    } in
    subst (λ (l : List Segment). LogStands stream more l t) (sym (grown_here x older c (omega (arith, lt, is.size)))) all
  where
    count : last.count ≡ 0 + length x.chunks
    count = omega (arith, is.count)

    size : last.size ≡ 8 + length (flat x.chunks)
    size = omega (arith, is.size, length-segment x.chunks)

-- ---- a new segment

filled_full : (x : Segment) (older : List Segment) → 262144 ≤ length (segment_of x.chunks) → Filled (x ∷ older)
filled_full x older ge = by x.chunks (omega (arith, ge, length-segment x.chunks))
  where
    by : (cs : List Chunk) → 1 ≤ length (flat cs) → 0 < length cs
    by [] le = absurd (omega (arith, le))
    by (c ∷ cs) le = omega arith

pub can_begin : (stream n : ℕ) (rows : List ChunkAt) (x : Segment) (older : List Segment) (s : DiskState) → LogStands stream rows (x ∷ older) s → 262144 ≤ length (segment_of x.chunks) → FrontEnds rows (length rows) n → CanBegin stream n (x ∷ older) s
can_begin stream n rows x older s stands ge ends = record {
  held = stands.held;
  follows = front_ends rows x older n stands.are ends (can_look stream rows x older s stands)
      ∙ ap (λ (k : ℕ). end_from k x.chunks) stands.held.follows
      ∙ sym (end_from-append 0 (all_chunks older) x.chunks);
  filled = filled_full x older ge;
}

pub segment_added : (stream : ℕ) (rows more : List ChunkAt) (row : ChunkAt) (x : Segment) (older : List Segment) (first : ℕ) (c : Chunk) (s t : DiskState) → LogStands stream rows (x ∷ older) s → 262144 ≤ length (segment_of x.chunks) → first ≡ c.first
    → row ≡ row_of first 0 8 c → more ≡ rows ++ row ∷ [] → Held stream (record { number = first; chunks = c ∷ [] } ∷ x ∷ older) t → LogStands stream more (grown (x ∷ older) c) t
segment_added stream rows more row x older first c s t stands ge first_is row_is more_is held =
    let y : Segment = record { number = c.first; chunks = c ∷ [] } in
    let all : LogStands stream more (y ∷ x ∷ older) t = record {
      held = subst (λ (n : ℕ). Held stream (record { number = n; chunks = c ∷ [] } ∷ x ∷ older) t) first_is held;
      filled = inr (omega arith);
      are = more_is ∙ (λ i. stands.are i ++ row_is i ∷ []) ∙ ap (λ (n : ℕ). rows_of (x ∷ older) ++ row_of n 0 8 c ∷ []) first_is;
    } in
    subst (λ (l : List Segment). LogStands stream more l t) (sym (grown_next x older c ge)) all

pub no_rows : (rows : List ChunkAt) → None ≡ slice_get rows (length rows - 1) → length rows ≡ 0
no_rows [] none = refl
no_rows (x ∷ xs) none = let no_ : None ≡ Some (get_or (x ∷ xs) (length (x ∷ xs) - 1) x) = none ∙ slice_get-get_or (x ∷ xs) (length (x ∷ xs) - 1) x (omega arith) in absurd (cc no_)

pub ends_there : (rows : List ChunkAt) (n a b : ℕ) → a ≡ b → FrontEnds rows n b → FrontEnds rows n a
ends_there rows n a b is ends = subst (λ (k : ℕ). FrontEnds rows n k) (sym is) ends

-- there is a last segment
pub first_of : (stream : ℕ) (rows : List ChunkAt) (segments : List Segment) (s : DiskState) → LogStands stream rows segments s → (x : Segment) × (older : List Segment) × LogStands stream rows (x ∷ older) s
first_of stream rows [] s stands = absurd stands.filled
first_of stream rows (x ∷ older) s stands = (x, older, stands)

pub from_first : (stream : ℕ) (rows : List ChunkAt) (segments : List Segment) (s : DiskState) → LogStands stream rows segments s → (P : List Segment → Type 0) → ((x : Segment) (older : List Segment) → LogStands stream rows (x ∷ older) s → P (x ∷ older)) → P segments
from_first stream rows [] s stands P each = absurd stands.filled
from_first stream rows (x ∷ older) s stands P each = each x older stands

pub images_first : (stream : ℕ) (rows : List ChunkAt) (segments : List Segment) (c : Chunk) (s t : DiskState) → LogStands stream rows segments s → ((x : Segment) (older : List Segment) → LogStands stream rows (x ∷ older) s → EachLog stream (OldOrNew (all_chunks (x ∷ older)) c) t)
    → EachLog stream (OldOrNew (all_chunks segments) c) t
images_first stream rows segments c s t stands each = from_first stream rows segments s stands (λ all. EachLog stream (OldOrNew (all_chunks all) c) t) each

pub done_first : {A E : Type 0} (result : Result A E) (stream : ℕ) (rows more : List ChunkAt) (segments : List Segment) (c : Chunk) (s t : DiskState) → LogStands stream rows segments s
    → ((x : Segment) (older : List Segment) → LogStands stream rows (x ∷ older) s → OnOk result (LogStands stream more (grown (x ∷ older) c) t)) → OnOk result (LogStands stream more (grown segments c) t)
done_first result stream rows more segments c s t stands each = from_first stream rows segments s stands (λ all. OnOk result (LogStands stream more (grown all c) t)) each
