-- The segments that a cut removes, and the one in which it cuts.
use Rattle.std.proofs.Common.{◌≡◌, ◌⊎◌, inl, inr, ℕ, zero, suc, ◌+◌, ◌*◌, ◌-◌, ◌≤◌, ◌<◌, ◌^◌, List, [], ◌∷◌, ◌++◌, length, take, drop, Some, None, slice_get, get_or, refl, sym, ◌∙◌, ap, subst, arith, append_assoc, length-append, take-append-drop}
use Rattle.std.proofs.lemmas.List.{append-nil, length-take, length-drop, take_all, take-append-le}
use Rattle.std.proofs.lemmas.Option.{slice_get_within, slice_get-get_or}
use Rattle.std.proofs.lemmas.List.Elements.{filter-append}
use Rattle.std.proofs.lemmas.Bool.{cases_lt}
use Rattle.std.proofs.Math.Seq.{take-append_seam, take-append-add}
use Rattle.disk_calls.specs.Disk.{DiskState}
use Rattle.chunk_format.specs.declared.chunk.Chunk.{Chunk}
use Rattle.chunk_format.specs.Logs.{end_from, end_of}
use Rattle.epoch_coordinator.specs.MemberSteps.{cut_at}
use Rattle.segment_pairs.specs.Log.{size_of, flat, LogOf, segment_of}
use Rattle.segment_pairs.specs.Held.{Segment, all_chunks, Held, HeldBelow, EachLog, Front, CanCut, files_of}
use Rattle.segment_pairs.proofs.Pairs.{length-segment, length-index, end_from-append}
use Rattle.segment_pairs.proofs.Lifting.{front_less, front_all}
use Rattle.segment_pairs.proofs.Many.{log_held}
use Rattle.segment_store.specs.declared.rows.ChunkAt.{ChunkAt}
use Rattle.segment_store.specs.Rows.{row_of, rows_at, rows_of, IsFilled, LogStands, FrontEnds, IsKept, CanTrim, Dropped, CanLook, IsBehind, NoneBehind}
use Rattle.segment_store.specs.Jobs.{Between}
use Rattle.segment_store.proofs.Table.{length-rows, length-rows_at, get_behind, get_front, row_behind, Chained, chained_below, chained_chain, chained_grows, chained_behind, row_chunk_at, LastRow, last_row, filled_below}
use Rattle.segment_store.proofs.Writing.{can_look, chain_few, some_if, no_last, held_at}
use Rattle.segment_store.proofs.Cutting.{later, cut_is, kept_one, front_between, all_cut}

-- nothing is cut yet
pub held_between : (stream end kept : ℕ) (rows : List ChunkAt) (segments : List Segment) (s : DiskState) → LogStands stream rows segments s → FrontEnds rows kept end → EachLog stream (Between end (all_chunks segments)) s
held_between stream end kept rows segments s stands ends F pick picks =
    let cut = cut_is stream end kept rows segments s stands ends in
    subst (λ (l : List Chunk). Between end (all_chunks segments) l) (sym (log_held F stream segments s pick stands.held picks)) (front_between end kept (all_chunks segments) (all_chunks segments) cut.1 (front_all kept (all_chunks segments) cut.2))

pub last_is : (stream : ℕ) (rows : List ChunkAt) (x : Segment) (older : List Segment) (row : ChunkAt) (s : DiskState) → LogStands stream rows (x ∷ older) s → slice_get rows (length rows - 1) ≡ Some row → LastRow (x ∷ older) x row
last_is stream rows x older row s stands is =
    let here : slice_get (rows_of (x ∷ older)) (length (rows_of (x ∷ older)) - 1) ≡ Some row = ap (λ (l : List ChunkAt). slice_get l (length l - 1)) (sym stands.are) ∙ is in
    last_row x older row (some_if x older row here (can_look stream rows x older s stands)) here

-- a last segment behind the offset
pub record Behind (end kept : ℕ) (x : Segment) (older : List Segment) : Type 0 where
  pub within : kept ≤ length (all_chunks older)
  pub ends : FrontEnds (rows_of older) kept end
  pub filled : IsFilled older
  pub same : cut_at end (all_chunks older) ≡ cut_at end (all_chunks (x ∷ older))

kept_older : (x : Segment) (older : List Segment) (kept end : ℕ) → Chained x.number x.chunks → FrontEnds (rows_of (x ∷ older)) kept end → end ≤ x.number → kept ≤ length (rows_of older)
kept_older x older zero end chained ends le = omega arith
kept_older x older (suc i) end chained ends le = elim (cases_lt i (length (rows_of older))) [
  | inl lt ↦ omega (arith, lt)
  | inr ge ↦
      let k = i - length (rows_of older) in
      let at : i ≡ length (rows_of older) + k = omega (arith, ge) in
      let found = row_chunk_at x.number 0 8 x.chunks k ends.row (sym (get_behind (rows_of older) (rows_at x.number 0 8 x.chunks) k) ∙ ap (λ (j : ℕ). slice_get (rows_of older ++ rows_at x.number 0 8 x.chunks) j) (sym at) ∙ ends.is) in
      absurd (omega (arith, le, ends.ends, found.2, later x.number k x.chunks found.0 chained found.1))
]

front_older : (x : Segment) (older : List Segment) (kept end : ℕ) → kept ≤ length (rows_of older) → FrontEnds (rows_of (x ∷ older)) kept end → FrontEnds (rows_of older) kept end
front_older x older zero end le ends = ends
front_older x older (suc i) end le ends = record { row = ends.row; is = sym (get_front (rows_of older) (rows_at x.number 0 8 x.chunks) i (omega (arith, le))) ∙ ends.is; ends = ends.ends }

pub behind_is : (stream end kept : ℕ) (rows : List ChunkAt) (x : Segment) (older : List Segment) (s : DiskState) → LogStands stream rows (x ∷ older) s → FrontEnds rows kept end → end ≤ x.number → 0 < x.number → Behind end kept x older
behind_is stream end kept rows x older s stands ends le some =
    let chained = chained_chain 8 x.number x.chunks stands.held.stands.chain in
    let here : FrontEnds (rows_of (x ∷ older)) kept end = subst (λ (l : List ChunkAt). FrontEnds l kept end) stands.are ends in
    let within = kept_older x older kept end chained here le in
    record {
      within = omega (arith, within, length-rows older);
      ends = front_older x older kept end within here;
      filled = elim (filled_below stream (2 ^ 64) x older s stands.held) [
        | inl none ↦ absurd (omega (arith, some, stands.held.follows, ap (λ (l : List Segment). end_of (all_chunks l)) none))
        | inr is ↦ is
      ];
      same = sym (filter_nothing end (all_chunks older) x.chunks (all_cut end x.number x.chunks chained le));
    }
  where
    filter_nothing : (end : ℕ) (a b : List Chunk) → cut_at end b ≡ [] → cut_at end (a ++ b) ≡ cut_at end a
    filter_nothing end a b none = filter-append _ a b ∙ ap (λ (l : List Chunk). cut_at end a ++ l) none ∙ append-nil (cut_at end a)

-- while it is removed
pub removing : (stream end kept : ℕ) (rows : List ChunkAt) (x : Segment) (older : List Segment) (s t : DiskState) → LogStands stream rows (x ∷ older) s → FrontEnds rows kept end → end ≤ x.number → 0 < x.number
    → EachLog stream (Front (length (all_chunks older)) (all_chunks (x ∷ older))) t → EachLog stream (Between end (all_chunks (x ∷ older))) t
removing stream end kept rows x older s t stands ends le some each F pick picks =
    let b = behind_is stream end kept rows x older s stands ends le some in
    let cut = cut_is stream end kept rows (x ∷ older) s stands ends in
    front_between end kept (all_chunks (x ∷ older)) (LogOf F (files_of stream pick)) cut.1 (front_less (length (all_chunks older)) kept (all_chunks (x ∷ older)) (LogOf F (files_of stream pick)) b.within (each F pick picks))

-- once it is gone
pub removed : (stream end kept size : ℕ) (rows more : List ChunkAt) (row : ChunkAt) (x : Segment) (older : List Segment) (s t : DiskState) → LogStands stream rows (x ∷ older) s → FrontEnds rows kept end → end ≤ x.number → 0 < x.number
    → LastRow (x ∷ older) x row → size ≡ length rows - row.nth - 1 → more ≡ take size rows → Held stream older t → LogStands stream more older t × FrontEnds more kept end
removed stream end kept size rows more row x older s t stands ends le some last is_size is_more held =
    let b = behind_is stream end kept rows x older s stands ends le some in
    let len : size ≡ length (rows_of older) = omega (arith, is_size, last.nth, ap length stands.are, length-append (rows_of older) (rows_at x.number 0 8 x.chunks), length-rows_at x.number 0 8 x.chunks) in
    let are : more ≡ rows_of older = is_more ∙ (λ i. take (len i) (stands.are i)) ∙ take-append_seam (rows_of older) (rows_at x.number 0 8 x.chunks) in
    (record { held = held; filled = b.filled; are = are }, subst (λ (l : List ChunkAt). FrontEnds l kept end) (sym are) b.ends)

between_longer : (end : ℕ) (a b log : List Chunk) → cut_at end a ≡ cut_at end (a ++ b) → Between end a log → Between end (a ++ b) log
between_longer end a b log same between = record {
  cut = (between.cut.0, between.cut.1 ∙ ap (λ (l : List Chunk). l ++ between.cut.0) same);
  front = (between.front.0 ++ b, ap (λ (l : List Chunk). l ++ b) between.front.1 ∙ append_assoc log between.front.0 b);
}

pub older_between : (stream end kept : ℕ) (rows : List ChunkAt) (x : Segment) (older : List Segment) (s t : DiskState) → LogStands stream rows (x ∷ older) s → FrontEnds rows kept end → end ≤ x.number → 0 < x.number
    → EachLog stream (Between end (all_chunks older)) t → EachLog stream (Between end (all_chunks (x ∷ older))) t
older_between stream end kept rows x older s t stands ends le some each F pick picks =
    between_longer end (all_chunks older) x.chunks (LogOf F (files_of stream pick)) (behind_is stream end kept rows x older s stands ends le some).same (each F pick picks)

pub older_dropped : (stream end kept : ℕ) (rows more : List ChunkAt) (x : Segment) (older : List Segment) (s t : DiskState) → LogStands stream rows (x ∷ older) s → FrontEnds rows kept end → end ≤ x.number → 0 < x.number
    → Dropped stream end kept more older t → Dropped stream end kept more (x ∷ older) t
older_dropped stream end kept rows more x older s t stands ends le some d =
    let b = behind_is stream end kept rows x older s stands ends le some in
    record {
      last = d.last;
      older = d.older;
      can = d.can;
      same = d.same ∙ b.same;
      front = (d.front.0 ++ x.chunks, ap (λ (l : List Chunk). l ++ x.chunks) d.front.1 ∙ append_assoc (all_chunks (d.last ∷ d.older)) d.front.0 x.chunks);
    }

-- nothing has to be dropped
pub none_dropped : (stream end kept : ℕ) (rows : List ChunkAt) (x : Segment) (older : List Segment) (s : DiskState) → LogStands stream rows (x ∷ older) s → FrontEnds rows kept end → (x.number < end) ⊎ (x.number ≡ 0) → Dropped stream end kept rows (x ∷ older) s
none_dropped stream end kept rows x older s stands ends low = record { last = x; older = older; can = record { stands = stands; low = low; ends = ends }; same = refl; front = ([], sym (append-nil (all_chunks (x ∷ older)))) }

-- ---- the calls

none_last : (x : Segment) (older : List Segment) (rows : List ChunkAt) (end : ℕ) → rows ≡ rows_of (x ∷ older) → CanLook x older → NoneBehind end rows → (x.number < end) ⊎ (x.number ≡ 0)
none_last x older rows end are can none = elim (cases_lt 0 (length rows)) [
  | inl lt ↦
      let zero_row : ChunkAt = record { segment = 0; nth = 0; place = 0; after = 0; end = 0 } in
      let row = get_or rows (length rows - 1) zero_row in
      let is : slice_get rows (length rows - 1) ≡ Some row = slice_get-get_or rows (length rows - 1) zero_row (omega (arith, lt)) in
      let here : slice_get (rows_of (x ∷ older)) (length (rows_of (x ∷ older)) - 1) ≡ Some row = ap (λ (l : List ChunkAt). slice_get l (length l - 1)) (sym are) ∙ is in
      let last = last_row x older row (some_if x older row here can) here in
      elim (none row is) [ inl less ↦ inl (omega (arith, less, last.segment)) | inr no_one ↦ inr (sym last.segment ∙ no_one) ]
  | inr le ↦ inr (sym (no_last rows x older (omega (arith, le)) are can).segment)
]

pub none_done : (stream end kept : ℕ) (rows : List ChunkAt) (segments : List Segment) (s : DiskState) → LogStands stream rows segments s → FrontEnds rows kept end → NoneBehind end rows → Dropped stream end kept rows segments s
none_done stream end kept rows [] s stands ends none = absurd stands.filled
none_done stream end kept rows (x ∷ older) s stands ends none = none_dropped stream end kept rows x older s stands ends (none_last x older rows end stands.are (can_look stream rows x older s stands) none)

-- the last segment by its row
pub record LastBehind (stream end kept : ℕ) (rows : List ChunkAt) (segments : List Segment) (row : ChunkAt) (s : DiskState) : Type 0 where
  pub x : Segment
  pub older : List Segment
  pub are : segments ≡ x ∷ older
  pub stands : LogStands stream rows (x ∷ older) s
  pub last : LastRow (x ∷ older) x row
  pub from : end ≤ x.number
  pub some : 0 < x.number
  pub held : Held stream (record { number = row.segment; chunks = x.chunks } ∷ older) s

pub behind_by : (stream end kept : ℕ) (rows : List ChunkAt) (segments : List Segment) (row : ChunkAt) (s : DiskState) → LogStands stream rows segments s → IsBehind end rows row → LastBehind stream end kept rows segments row s
behind_by stream end kept rows [] row s stands is = absurd stands.filled
behind_by stream end kept rows (x ∷ older) row s stands is =
    let last = last_is stream rows x older row s stands is.is in
    record {
      x = x;
      older = older;
      are = refl;
      stands = stands;
      last = last;
      from = omega (arith, is.from, last.segment);
      some = omega (arith, is.some, last.segment);
      held = held_at stream row.segment x older s last.segment stands.held;
    }

pub drop_failing : (stream end kept : ℕ) (rows : List ChunkAt) (segments : List Segment) (row : ChunkAt) (s t : DiskState) → LogStands stream rows segments s → FrontEnds rows kept end → IsBehind end rows row
    → ((older : List Segment) (cs : List Chunk) → Held stream (record { number = row.segment; chunks = cs } ∷ older) s → EachLog stream (Front (length (all_chunks older)) (all_chunks older ++ cs)) t) → EachLog stream (Between end (all_chunks segments)) t
drop_failing stream end kept rows segments row s t stands ends is each =
    let b = behind_by stream end kept rows segments row s stands is in
    subst (λ (l : List Segment). EachLog stream (Between end (all_chunks l)) t) (sym b.are) (removing stream end kept rows b.x b.older s t b.stands ends b.from b.some (each b.older b.x.chunks b.held))

pub drop_again : (stream end kept size : ℕ) (rows more : List ChunkAt) (segments : List Segment) (row : ChunkAt) (s t : DiskState) → LogStands stream rows segments s → FrontEnds rows kept end → IsBehind end rows row
    → ((older : List Segment) (cs : List Chunk) → Held stream (record { number = row.segment; chunks = cs } ∷ older) s → Held stream older t) → size ≡ length rows - row.nth - 1 → more ≡ take size rows
    → (older : List Segment) × LogStands stream more older t × FrontEnds more kept end
drop_again stream end kept size rows more segments row s t stands ends is gone is_size is_more =
    let b = behind_by stream end kept rows segments row s stands is in
    let now = removed stream end kept size rows more row b.x b.older s t b.stands ends b.from b.some b.last is_size is_more (gone b.older b.x.chunks b.held) in
    (b.older, now.0, now.1)

pub again_images : (stream end kept size : ℕ) (rows more : List ChunkAt) (segments : List Segment) (row : ChunkAt) (s t u : DiskState) → LogStands stream rows segments s → FrontEnds rows kept end → IsBehind end rows row
    → ((older : List Segment) (cs : List Chunk) → Held stream (record { number = row.segment; chunks = cs } ∷ older) s → Held stream older t) → size ≡ length rows - row.nth - 1 → more ≡ take size rows
    → ((older : List Segment) (k : ℕ) → LogStands stream more older t → FrontEnds more k end → EachLog stream (Between end (all_chunks older)) u) → EachLog stream (Between end (all_chunks segments)) u
again_images stream end kept size rows more segments row s t u stands ends is gone is_size is_more each =
    let b = behind_by stream end kept rows segments row s stands is in
    let now = removed stream end kept size rows more row b.x b.older s t b.stands ends b.from b.some b.last is_size is_more (gone b.older b.x.chunks b.held) in
    subst (λ (l : List Segment). EachLog stream (Between end (all_chunks l)) u) (sym b.are) (older_between stream end kept rows b.x b.older s u b.stands ends b.from b.some (each b.older kept now.0 now.1))

pub again_done : (stream end kept size : ℕ) (rows more left : List ChunkAt) (segments : List Segment) (row : ChunkAt) (s t u : DiskState) → LogStands stream rows segments s → FrontEnds rows kept end → IsBehind end rows row
    → ((older : List Segment) (cs : List Chunk) → Held stream (record { number = row.segment; chunks = cs } ∷ older) s → Held stream older t) → size ≡ length rows - row.nth - 1 → more ≡ take size rows
    → ((older : List Segment) (k : ℕ) → LogStands stream more older t → FrontEnds more k end → Dropped stream end k left older u) → Dropped stream end kept left segments u
again_done stream end kept size rows more left segments row s t u stands ends is gone is_size is_more each =
    let b = behind_by stream end kept rows segments row s stands is in
    let now = removed stream end kept size rows more row b.x b.older s t b.stands ends b.from b.some b.last is_size is_more (gone b.older b.x.chunks b.held) in
    subst (λ (l : List Segment). Dropped stream end kept left l u) (sym b.are) (older_dropped stream end kept rows left b.x b.older s u b.stands ends b.from b.some (each b.older kept now.0 now.1))

-- ---- the cut in the last segment

low_kept : (stream end kept : ℕ) (rows : List ChunkAt) (x : Segment) (older : List Segment) (s : DiskState) → CanTrim stream end kept rows x older s → length (all_chunks older) ≤ kept
low_kept stream end kept rows x older s can =
    let cut = cut_is stream end kept rows (x ∷ older) s can.stands can.ends in
    let chained = chained_below stream x.number older s can.stands.held.below in
    elim (cases_lt kept (length (all_chunks older))) [
      | inr ge ↦ ge
      | inl lt ↦
          let front : take kept (all_chunks older ++ x.chunks) ≡ take kept (all_chunks older) = take-append-le kept (all_chunks older) x.chunks (omega (arith, lt)) in
          let ends : end_of (take kept (all_chunks older)) ≡ end = ap end_of (sym front) ∙ cut.0 in
          let split : Chained 0 (take kept (all_chunks older) ++ drop kept (all_chunks older)) = subst (λ (l : List Chunk). Chained 0 l) (sym (take-append-drop kept (all_chunks older))) chained in
          let more = chained_grows (end_of (take kept (all_chunks older))) (drop kept (all_chunks older)) (chained_behind 0 (take kept (all_chunks older)) (drop kept (all_chunks older)) split) in
          let all : end_of (all_chunks older) ≡ end_from (end_of (take kept (all_chunks older))) (drop kept (all_chunks older)) =
          ap end_of (sym (take-append-drop kept (all_chunks older))) ∙ end_from-append 0 (take kept (all_chunks older)) (drop kept (all_chunks older)) in
          let least = chained_grows 0 (all_chunks older) chained in
          elim can.low [
            | inl less ↦ absurd (omega (arith, less, can.stands.held.follows, all, more, ends))
            | inr none ↦ absurd (omega (arith, none, can.stands.held.follows, least, lt))
          ]
    ]

rows_take : (n nth place k : ℕ) (cs : List Chunk) → rows_at n nth place (take k cs) ≡ take k (rows_at n nth place cs)
rows_take n nth place zero cs = refl
rows_take n nth place (suc k) [] = refl
rows_take n nth place (suc k) (c ∷ cs) = ap (λ (l : List ChunkAt). row_of n nth place c ∷ l) (rows_take n (nth + 1) (place + size_of c) k cs)

-- where it is cut
pub record TrimAt (stream end kept : ℕ) (rows : List ChunkAt) (x : Segment) (older : List Segment) (row : ChunkAt) (s : DiskState) : Type 0 where
  pub left : ℕ
  pub at : kept ≡ length (all_chunks older) + left
  pub can : CanCut stream x.number x.chunks left row.place (8 + 29 * row.nth) s
  pub few : row.nth < 2 ^ 40
  pub segment : row.segment ≡ x.number

trim_row : (x : Segment) (left : ℕ) (row : ChunkAt) → slice_get (rows_at x.number 0 8 x.chunks) left ≡ Some row → (left < length x.chunks) × (row.segment ≡ x.number) × (row.nth ≡ left) × (row.place ≡ length (segment_of (take left x.chunks)))
trim_row x left row is =
    let lt : left < length x.chunks = omega (arith, slice_get_within (rows_at x.number 0 8 x.chunks) left row is, length-rows_at x.number 0 8 x.chunks) in
    let len : length (take left x.chunks) ≡ left = omega (arith, length-take left x.chunks, lt) in
    let (c, ds, split) = head_of (drop left x.chunks) (omega (arith, lt, length-drop left x.chunks)) in
    let whole : take left x.chunks ++ c ∷ ds ≡ x.chunks = ap (λ (l : List Chunk). take left x.chunks ++ l) (sym split) ∙ take-append-drop left x.chunks in
    let found : slice_get (rows_at x.number 0 8 x.chunks) left ≡ Some (row_of x.number (length (take left x.chunks)) (8 + length (flat (take left x.chunks))) c) =
    (λ i. slice_get (rows_at x.number 0 8 (sym whole i)) (sym len i)) ∙ row_behind x.number (take left x.chunks) c ds in
    let same : row_of x.number (length (take left x.chunks)) (8 + length (flat (take left x.chunks))) c ≡ row = cc (sym found ∙ is) in
    (lt, sym (ap (λ (r : ChunkAt). r.segment) same), sym (ap (λ (r : ChunkAt). r.nth) same) ∙ len, sym (ap (λ (r : ChunkAt). r.place) same) ∙ sym (length-segment (take left x.chunks)))
  where
    head_of : (cs : List Chunk) → 0 < length cs → (c : Chunk) × (ds : List Chunk) × (cs ≡ c ∷ ds)
    head_of [] lt = absurd (omega (arith, lt))
    head_of (c ∷ ds) lt = (c, ds, refl)

pub trim_at : (stream end kept : ℕ) (rows : List ChunkAt) (x : Segment) (older : List Segment) (row : ChunkAt) (s : DiskState) → CanTrim stream end kept rows x older s → slice_get rows kept ≡ Some row → TrimAt stream end kept rows x older row s
trim_at stream end kept rows x older row s can is =
    let low = low_kept stream end kept rows x older s can in
    let left = kept - length (all_chunks older) in
    let at : kept ≡ length (rows_of older) + left = omega (arith, low, length-rows older) in
    let here : slice_get (rows_at x.number 0 8 x.chunks) left ≡ Some row = sym (get_behind (rows_of older) (rows_at x.number 0 8 x.chunks) left) ∙ (λ i. slice_get (sym can.stands.are i) (sym at i)) ∙ is in
    let found = trim_row x left row here in
    record {
      left = left;
      at = omega (arith, low);
      can = record {
        stands = can.stands.held.stands;
        within = omega (arith, found.0);
        ends = found.3;
        index_ends = omega (arith, found.2, length-index (take left x.chunks), length-take left x.chunks, found.0);
      };
      few = omega (arith, found.2, found.0, chain_few 8 x.number x.chunks can.stands.held.stands.chain);
      segment = found.1;
    }

pub can_cut : (stream n : ℕ) (x : Segment) (left size index_size nth : ℕ) (s : DiskState) → n ≡ x.number → (nth < 2 ^ 40 → index_size ≡ 8 + 29 * nth) → nth < 2 ^ 40 → CanCut stream x.number x.chunks left size (8 + 29 * nth) s → CanCut stream n x.chunks left size index_size s
can_cut stream n x left size index_size nth s is index few can =
    let one : CanCut stream n x.chunks left size (8 + 29 * nth) s = subst (λ (k : ℕ). CanCut stream k x.chunks left size (8 + 29 * nth) s) (sym is) can in
    subst (λ (k : ℕ). CanCut stream n x.chunks left size k s) (sym (index few)) one

-- the log is cut in the last segment
pub trim_failing : (stream end kept other : ℕ) (rows : List ChunkAt) (x : Segment) (older : List Segment) (row : ChunkAt) (index_size : ℕ) (s t : DiskState) → CanTrim stream end kept rows x older s → IsKept end rows other → slice_get rows other ≡ Some row → (row.nth < 2 ^ 40 → index_size ≡ 8 + 29 * row.nth)
    → ((cs : List Chunk) (left : ℕ) → Held stream (record { number = row.segment; chunks = cs } ∷ older) s → CanCut stream row.segment cs left row.place index_size s → EachLog stream (Front (length (all_chunks older) + left) (all_chunks older ++ cs)) t) → EachLog stream (Between end (all_chunks (x ∷ older))) t
trim_failing stream end kept other rows x older row index_size s t can is get index each F pick picks =
    let one = kept_one stream end kept other rows (x ∷ older) s can.stands can.ends is in
    let at = trim_at stream end kept rows x older row s can (ap (λ (k : ℕ). slice_get rows k) (sym one) ∙ get) in
    let cut = cut_is stream end kept rows (x ∷ older) s can.stands can.ends in
    let front = each x.chunks at.left (held_at stream row.segment x older s at.segment can.stands.held) (can_cut stream row.segment x at.left row.place index_size row.nth s at.segment index at.few at.can) F pick picks in
    front_between end kept (all_chunks (x ∷ older)) (LogOf F (files_of stream pick)) cut.1 (subst (λ (k : ℕ). Front k (all_chunks (x ∷ older)) (LogOf F (files_of stream pick))) (sym at.at) front)

pub trim_requires : (stream end kept other : ℕ) (rows : List ChunkAt) (x : Segment) (older : List Segment) (row : ChunkAt) (index_size : ℕ) (s : DiskState) → CanTrim stream end kept rows x older s → IsKept end rows other → slice_get rows other ≡ Some row → (row.nth < 2 ^ 40 → index_size ≡ 8 + 29 * row.nth)
    → (cs : List Chunk) × (left : ℕ) × CanCut stream row.segment cs left row.place index_size s
trim_requires stream end kept other rows x older row index_size s can is get index =
    let one = kept_one stream end kept other rows (x ∷ older) s can.stands can.ends is in
    let at = trim_at stream end kept rows x older row s can (ap (λ (k : ℕ). slice_get rows k) (sym one) ∙ get) in
    (x.chunks, at.left, can_cut stream row.segment x at.left row.place index_size row.nth s at.segment index at.few at.can)

-- nothing stands behind the offset
pub trim_none : (stream end kept other : ℕ) (rows : List ChunkAt) (x : Segment) (older : List Segment) (s : DiskState) → CanTrim stream end kept rows x older s → IsKept end rows other → slice_get rows other ≡ None
    → (now : List Segment) × LogStands stream rows now s × (all_chunks now ≡ cut_at end (all_chunks (x ∷ older)))
trim_none stream end kept other rows x older s can is none =
    let one = kept_one stream end kept other rows (x ∷ older) s can.stands can.ends is in
    let cut = cut_is stream end kept rows (x ∷ older) s can.stands can.ends in
    let past : length rows ≤ kept = not_there rows other none one in
    (x ∷ older, can.stands, sym (cut.1 ∙ take_all kept (all_chunks (x ∷ older)) (omega (arith, past, ap length can.stands.are, length-rows (x ∷ older)))))
  where
    not_there : (rows : List ChunkAt) (other : ℕ) → slice_get rows other ≡ None → other ≡ kept → length rows ≤ kept
    not_there rows other none one = elim (cases_lt other (length rows)) [
      | inr ge ↦ omega (arith, ge, one)
      | inl lt ↦
          let zero_row : ChunkAt = record { segment = 0; nth = 0; place = 0; after = 0; end = 0 } in
          let no_ : None ≡ Some (get_or rows other zero_row) = sym none ∙ slice_get-get_or rows other zero_row lt in absurd (cc no_)
    ]

trim_filled : (stream end kept left : ℕ) (rows : List ChunkAt) (x : Segment) (older : List Segment) (s : DiskState) → CanTrim stream end kept rows x older s → kept ≡ length (all_chunks older) + left → left ≤ length x.chunks → (older ≡ []) ⊎ (0 < length (take left x.chunks))
trim_filled stream end kept left rows x older s can at within = elim (filled_below stream (2 ^ 64) x older s can.stands.held) [
  | inl none ↦ inl none
  | inr some ↦ elim (cases_lt 0 left) [
    | inl lt ↦ inr (omega (arith, length-take left x.chunks, lt, within))
    | inr le ↦
        let cut = cut_is stream end kept rows (x ∷ older) s can.stands can.ends in
        let front : take kept (all_chunks older ++ x.chunks) ≡ all_chunks older = ap (λ (k : ℕ). take k (all_chunks older ++ x.chunks)) (none_left at (omega (arith, le))) ∙ take-append_seam (all_chunks older) x.chunks in
        let same : end_of (all_chunks older) ≡ end = ap end_of (sym front) ∙ cut.0 in
        elim can.low [
          | inl less ↦ absurd (omega (arith, less, can.stands.held.follows, same))
          | inr zero_ ↦ absurd (lower older some can.stands.held.below zero_)
        ]
  ]
]
  where
    none_left : kept ≡ length (all_chunks older) + left → left ≡ 0 → kept ≡ length (all_chunks older)
    none_left at none = omega (arith, at, none)

    lower : (older : List Segment) → IsFilled older → HeldBelow stream x.number older s → x.number ≡ 0 → ⊥
    lower [] some held zero_ = some
    lower (y ∷ ys) some held zero_ = absurd (omega (arith, held.under, zero_))

pub trim_done : (stream end kept other : ℕ) (rows more : List ChunkAt) (x : Segment) (older : List Segment) (row : ChunkAt) (index_size : ℕ) (s t : DiskState) → CanTrim stream end kept rows x older s → IsKept end rows other → slice_get rows other ≡ Some row → (row.nth < 2 ^ 40 → index_size ≡ 8 + 29 * row.nth)
    → more ≡ take other rows
    → ((cs : List Chunk) (left : ℕ) → Held stream (record { number = row.segment; chunks = cs } ∷ older) s → CanCut stream row.segment cs left row.place index_size s → Held stream (record { number = row.segment; chunks = take left cs } ∷ older) t)
    → (now : List Segment) × LogStands stream more now t × (all_chunks now ≡ cut_at end (all_chunks (x ∷ older)))
trim_done stream end kept other rows more x older row index_size s t can is get index is_more each =
    let one = kept_one stream end kept other rows (x ∷ older) s can.stands can.ends is in
    let at = trim_at stream end kept rows x older row s can (ap (λ (k : ℕ). slice_get rows k) (sym one) ∙ get) in
    let cut = cut_is stream end kept rows (x ∷ older) s can.stands can.ends in
    let cs = take at.left x.chunks in
    let y : Segment = record { number = x.number; chunks = cs } in
    let held = each x.chunks at.left (held_at stream row.segment x older s at.segment can.stands.held) (can_cut stream row.segment x at.left row.place index_size row.nth s at.segment index at.few at.can) in
    let count : other ≡ length (rows_of older) + at.left = omega (arith, one, at.at, length-rows older) in
    let are : more ≡ rows_of older ++ rows_at x.number 0 8 cs =
    is_more
    ∙ (λ i. take (count i) (can.stands.are i))
    ∙ take-append-add (rows_of older) (rows_at x.number 0 8 x.chunks) at.left
    ∙ ap (λ (l : List ChunkAt). rows_of older ++ l) (sym (rows_take x.number 0 8 at.left x.chunks)) in
    let all : all_chunks older ++ cs ≡ take kept (all_chunks older ++ x.chunks) = sym (take-append-add (all_chunks older) x.chunks at.left) ∙ ap (λ (k : ℕ). take k (all_chunks older ++ x.chunks)) (sym at.at) in (
      y ∷ older,
      record {
        held = subst (λ (n : ℕ). Held stream (record { number = n; chunks = cs } ∷ older) t) at.segment held;
        filled = trim_filled stream end kept at.left rows x older s can at.at at.can.within;
        are = are;
      },
      all ∙ sym cut.1,
    )

-- what is left between is between
pub all_between : (stream end kept : ℕ) (rows : List ChunkAt) (segments : List Segment) (s t : DiskState) (d : Dropped stream end kept rows segments s) → EachLog stream (Between end (all_chunks (d.last ∷ d.older))) t → EachLog stream (Between end (all_chunks segments)) t
all_between stream end kept rows segments s t d each F pick picks =
    let b = each F pick picks in
    record {
      cut = (b.cut.0, b.cut.1 ∙ ap (λ (l : List Chunk). l ++ b.cut.0) d.same);
      front = (b.front.0 ++ d.front.0, d.front.1 ∙ ap (λ (l : List Chunk). l ++ d.front.0) b.front.1 ∙ append_assoc (LogOf F (files_of stream pick)) b.front.0 d.front.0);
    }
