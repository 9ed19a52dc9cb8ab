-- From one segment and its index to all of a stream.
use Rattle.std.proofs.Common.{◌≡◌, ◌≢◌, ◌⊎◌, inl, inr, ℕ, ◌+◌, ◌≤◌, ◌<◌, ◌^◌, List, [], ◌∷◌, ◌++◌, length, Some, refl, sym, ◌∙◌, ap, subst, arith, append_assoc, length-append}
use Rattle.std.proofs.lemmas.List.{append-nil, take_all, take-append-le}
use Rattle.std.proofs.lemmas.Bool.{cases_eq, cases_lt}
use Rattle.std.proofs.Math.Seq.{take-append_seam, take-append-add, take-length}
use Rattle.disk_calls.specs.declared.file_id.FileId.{FileId}
use Rattle.disk_calls.specs.declared.file_id.FileName.TheVariants as name
use Rattle.disk_calls.specs.Disk.{DiskState, bytes_of}
use Rattle.disk_calls.specs.Frames.{FileStays}
use Rattle.disk_calls.proofs.FrameLemmas as frames
use Rattle.chunk_format.specs.declared.chunk.Chunk.{Chunk}
use Rattle.chunk_format.specs.Chunks.{end_of_chunk}
use Rattle.chunk_format.proofs.LinkLaws.{chunk_goes_on}
use Rattle.chunk_format.specs.Logs.{end_from, end_of}
use Rattle.segment_pairs.specs.Log.{size_of, LogOf, pair_log, Chain, segment_of, index_of}
use Rattle.segment_pairs.specs.Held.{segment_file, index_file, Segment, all_chunks, files_of, EachLog, Missing, MissingFrom, Stands, HeldBelow, Held, OldOrNew, Front, EachPair, BesidesPair, GoneOrBefore, OutsideLog, Filled, CanBegin}
use Rattle.segment_pairs.proofs.Pairs.{end_from-append, pair_whole}
use Rattle.segment_pairs.proofs.Moving.{apart, apart_back}
use Rattle.segment_pairs.proofs.Making.{none_log, none_short}
use Rattle.segment_pairs.proofs.Many.{log_tail}

pub other_segment : (stream i n : ℕ) → i ≢ n → segment_file stream i ≢ segment_file stream n
other_segment stream i n ne e = let f : name.Segment i ≡ name.Segment n = ap (λ (x : FileId). x.file) e in ne (cc f)

pub other_index : (stream i n : ℕ) → i ≢ n → index_file stream i ≢ index_file stream n
other_index stream i n ne e = let f : name.Index i ≡ name.Index n = ap (λ (x : FileId). x.file) e in ne (cc f)

-- the files of another number stay
pub segment_stays : (stream n i : ℕ) (s t : DiskState) → BesidesPair stream n s t → i ≢ n → FileStays (segment_file stream i) s t
segment_stays stream n i s t besides ne = frames.besides_stay (segment_file stream i) (segment_file stream n) (index_file stream n) s t (other_segment stream i n ne) (apart stream i n) besides

pub index_stays : (stream n i : ℕ) (s t : DiskState) → BesidesPair stream n s t → i ≢ n → FileStays (index_file stream i) s t
index_stays stream n i s t besides ne = frames.besides_stay (index_file stream i) (segment_file stream n) (index_file stream n) s t (apart_back stream i n) (other_index stream i n ne) besides

pub missing_if : (stream i : ℕ) (s t : DiskState) → FileStays (segment_file stream i) s t → FileStays (index_file stream i) s t → Missing stream i s → Missing stream i t
missing_if stream i s t one two missing = record { segment = one.seen ∙ missing.segment; index = λ c left. missing.index c (two.images c left) }

pub stands_if : (stream : ℕ) (x : Segment) (s t : DiskState) → FileStays (segment_file stream x.number) s t → FileStays (index_file stream x.number) s t → Stands stream x s → Stands stream x t
stands_if stream x s t one two stands = record {
  segment = frames.settled_stays (segment_file stream x.number) (segment_of x.chunks) s t one stands.segment;
  index = frames.settled_stays (index_file stream x.number) (index_of x.chunks) s t two stands.index;
  chain = stands.chain;
}

pub missing_stays : (stream n i : ℕ) (s t : DiskState) → BesidesPair stream n s t → i ≢ n → Missing stream i s → Missing stream i t
missing_stays stream n i s t besides ne missing = missing_if stream i s t (segment_stays stream n i s t besides ne) (index_stays stream n i s t besides ne) missing

stands_stays : (stream n : ℕ) (x : Segment) (s t : DiskState) → BesidesPair stream n s t → x.number ≢ n → Stands stream x s → Stands stream x t
stands_stays stream n x s t besides ne stands = stands_if stream x s t (segment_stays stream n x.number s t besides ne) (index_stays stream n x.number s t besides ne) stands

pub missing_from_stays : (stream n low top : ℕ) (s t : DiskState) → BesidesPair stream n s t → n < low → MissingFrom stream low top s → MissingFrom stream low top t
missing_from_stays stream n low top s t besides lt missing i ge less = missing_stays stream n i s t besides (λ e. absurd (omega (arith, e, lt, ge))) (missing i ge less)

-- what stands below stays
pub held_stays : (stream n top : ℕ) (segments : List Segment) (s t : DiskState) → BesidesPair stream n s t → top ≤ n → HeldBelow stream top segments s → HeldBelow stream top segments t
held_stays stream n top [] s t besides le missing = λ i ge less. missing_stays stream n i s t besides (λ e. absurd (omega (arith, e, le, less))) (missing i ge less)
held_stays stream n top (x ∷ older) s t besides le held = record {
  under = held.under;
  follows = held.follows;
  stands = stands_stays stream n x s t besides (λ e. absurd (omega (arith, e, le, held.under))) held.stands;
  above = λ i ge less. missing_stays stream n i s t besides (λ e. absurd (omega (arith, e, le, less))) (held.above i ge less);
  below = held_stays stream n x.number older s t besides (omega (arith, le, held.under)) held.below;
}

-- nothing stands up to a higher number
pub held_up : (stream n top : ℕ) (segments : List Segment) (s : DiskState) → n ≤ top → HeldBelow stream n segments s → MissingFrom stream n top s → HeldBelow stream top segments s
held_up stream n top [] s le held missing = λ i ge less. elim (cases_lt i n) [ inl lt ↦ held i ge lt | inr more ↦ missing i more less ]
held_up stream n top (x ∷ older) s le held missing = record {
  under = omega (arith, held.under, le);
  follows = held.follows;
  stands = held.stands;
  above = λ i ge less. elim (cases_lt i n) [ inl lt ↦ held.above i ge lt | inr more ↦ missing i more less ];
  below = held.below;
}

-- the log of all, from that of the last
pub each_log : (stream n : ℕ) (older : List Segment) (P : List Chunk → Type 0) (t : DiskState) → n < 2 ^ 64 → n ≡ end_of (all_chunks older) → HeldBelow stream n older t → MissingFrom stream (n + 1) (2 ^ 64) t → EachPair stream n P t
    → EachLog stream (λ log. (l : List Chunk) × (log ≡ all_chunks older ++ l) × P l) t
each_log stream n older P t lt end held missing each F pick picks =
    (pair_log F n (files_of stream pick n), log_tail F stream n older t pick lt end held missing picks, each F (pick (segment_file stream n)) (pick (index_file stream n)) (picks (segment_file stream n)) (picks (index_file stream n)))

pub lift_write : (older cs log : List Chunk) (c : Chunk) → ((l : List Chunk) × (log ≡ older ++ l) × OldOrNew cs c l) → OldOrNew (older ++ cs) c log
lift_write older cs log c (l, is, inl old) = inl (is ∙ ap (λ (x : List Chunk). older ++ x) old)
lift_write older cs log c (l, is, inr new) = inr (is ∙ ap (λ (x : List Chunk). older ++ x) new ∙ sym (append_assoc older cs (c ∷ [])))

pub lift_new : (older log : List Chunk) (c : Chunk) → ((l : List Chunk) × (log ≡ older ++ l) × OldOrNew [] c l) → OldOrNew older c log
lift_new older log c (l, is, inl old) = inl (is ∙ ap (λ (x : List Chunk). older ++ x) old ∙ append-nil older)
lift_new older log c (l, is, inr new) = inr (is ∙ ap (λ (x : List Chunk). older ++ x) new)

pub lift_cut : (older cs log : List Chunk) (left : ℕ) → ((l : List Chunk) × (log ≡ older ++ l) × Front left cs l) → Front (length older + left) (older ++ cs) log
lift_cut older cs log left (l, is, front) = record { size = length older + front.size; enough = omega (arith, front.enough); is = is ∙ ap (λ (x : List Chunk). older ++ x) front.is ∙ sym (take-append-add older cs front.size) }

-- a front of a front
pub front_longer : (m : ℕ) (xs ys log : List Chunk) → m ≤ length xs → Front m xs log → Front m (xs ++ ys) log
front_longer m xs ys log le front = elim (cases_lt front.size (length xs)) [
  | inl lt ↦ record { size = front.size; enough = front.enough; is = front.is ∙ sym (take-append-le front.size xs ys (omega (arith, lt))) }
  | inr ge ↦ record { size = length xs; enough = le; is = front.is ∙ take_all front.size xs ge ∙ sym (take-append_seam xs ys) }
]

pub front_all : (m : ℕ) (xs : List Chunk) → m ≤ length xs → Front m xs xs
front_all m xs le = record { size = length xs; enough = le; is = sym (take-length xs) }

pub front_less : (m k : ℕ) (xs log : List Chunk) → k ≤ m → Front m xs log → Front k xs log
front_less m k xs log le front = record { size = front.size; enough = omega (arith, front.enough, le); is = front.is }

-- a removed pair had these chunks or has none
pub removed_log : (stream : ℕ) (x : Segment) (s t : DiskState) → Stands stream x s → GoneOrBefore stream x.number s t → EachPair stream x.number (λ l. (l ≡ []) ⊎ (l ≡ x.chunks)) t
removed_log stream x s t stands before F a b left_a left_b = elim (before a b left_a left_b) [
  | inl none ↦ inl (none_log F x.number a b (none_short b none))
  | inr both ↦
      let one : a ≡ Some (segment_of x.chunks) = stands.segment.only a both.0 in
      let two : b ≡ Some (index_of x.chunks) = stands.index.only b both.1 in
      inr ((λ i. pair_log F x.number (bytes_of (one i), bytes_of (two i))) ∙ pair_whole F x.number x.chunks stands.chain)
]

pub lift_remove : (older cs log : List Chunk) → ((l : List Chunk) × (log ≡ older ++ l) × ((l ≡ []) ⊎ (l ≡ cs))) → Front (length older) (older ++ cs) log
lift_remove older cs log (l, is, inl none) = record { size = length older; enough = omega arith; is = is ∙ ap (λ (x : List Chunk). older ++ x) none ∙ append-nil older ∙ sym (take-append_seam older cs) }
lift_remove older cs log (l, is, inr all) = record { size = length (older ++ cs); enough = omega (arith, length-append older cs); is = is ∙ ap (λ (x : List Chunk). older ++ x) all ∙ sym (take-length (older ++ cs)) }

-- the files outside of the log stay
pub outside_log : (stream n : ℕ) (s t : DiskState) → BesidesPair stream n s t → OutsideLog stream s t
outside_log stream n s t besides = record {
  seen = λ f other. besides.seen f (other n).0 (other n).1;
  images = λ f other. besides.images f (other n).0 (other n).1;
}

pub outside_then : (stream : ℕ) (s t u : DiskState) → OutsideLog stream s t → OutsideLog stream t u → OutsideLog stream s u
outside_then stream s t u a b = record { seen = λ f other. b.seen f other ∙ a.seen f other; images = λ f other c left. a.images f other c (b.images f other c left) }

pub outside_same : (stream : ℕ) (s : DiskState) → OutsideLog stream s s
outside_same stream s = record { seen = λ f other. refl; images = λ f other c left. left }

-- where the next segment begins nothing stands yet
pub held_next : (stream n : ℕ) (segments : List Segment) (s : DiskState) → Held stream segments s → n ≡ end_of (all_chunks segments) → n < 2 ^ 64 → ((x : Segment) (older : List Segment) → segments ≡ x ∷ older → x.number < n)
    → HeldBelow stream n segments s × MissingFrom stream n (2 ^ 64) s
held_next stream n [] s held is lt under = ((λ i ge less. held i ge (omega (arith, less, lt))), (λ i ge less. held i (omega arith) less))
held_next stream n (x ∷ older) s held is lt under =
    let more : x.number < n = under x older refl in (
      record { under = more; follows = held.follows; stands = held.stands; above = λ i ge less. held.above i ge (omega (arith, less, lt)); below = held.below },
      (λ i ge less. held.above i (omega (arith, ge, more)) less),
    )

-- chunks take offsets
pub grows : (place end : ℕ) (cs : List Chunk) → Chain place end cs → end + length cs ≤ end_from end cs
grows place end [] fit = omega arith
grows place end (c ∷ cs) fit =
    let rest = grows (place + size_of c) (end_of_chunk c) cs fit.3 in
    omega (arith, rest, fit.1, chunk_goes_on c fit.2)

pub missing_more : (stream n top : ℕ) (s : DiskState) → Missing stream n s → MissingFrom stream (n + 1) top s → MissingFrom stream n top s
missing_more stream n top s here missing i ge less = elim (cases_eq i n) [
  | inl same ↦ subst (λ (k : ℕ). Missing stream k s) (sym same) here
  | inr ne ↦ missing i (neq_more i n ge ne) less
]
  where
    neq_more : (i n : ℕ) → n ≤ i → (i ≡ n → ⊥) → n + 1 ≤ i
    neq_more i n ge ne = elim (cases_lt n i) [ inl lt ↦ omega (arith, lt) | inr le ↦ absurd (ne (omega (arith, ge, le))) ]

-- the last is removed
pub one_leaves : (stream : ℕ) (x : Segment) (older : List Segment) (s t : DiskState) → Held stream (x ∷ older) s → GoneOrBefore stream x.number s t → BesidesPair stream x.number s t
    → EachLog stream (Front (length (all_chunks older)) (all_chunks (x ∷ older))) t
one_leaves stream x older s t held before besides F pick picks =
    let below = held_stays stream x.number x.number older s t besides (omega arith) held.below in
    let above = missing_from_stays stream x.number (x.number + 1) (2 ^ 64) s t besides (omega arith) held.above in
    lift_remove (all_chunks older) x.chunks (LogOf F (files_of stream pick)) (each_log stream x.number older (λ l. (l ≡ []) ⊎ (l ≡ x.chunks)) t held.under held.follows below above (removed_log stream x s t held.stands before) F pick picks)

-- once it has left
pub one_left : (stream : ℕ) (x : Segment) (older : List Segment) (s t : DiskState) → Held stream (x ∷ older) s → Missing stream x.number t → BesidesPair stream x.number s t → Held stream older t
one_left stream x older s t held gone besides =
    let below = held_stays stream x.number x.number older s t besides (omega arith) held.below in
    let above = missing_from_stays stream x.number (x.number + 1) (2 ^ 64) s t besides (omega arith) held.above in
    held_up stream x.number (2 ^ 64) older t (omega (arith, held.under)) below (missing_more stream x.number (2 ^ 64) t gone above)

-- a new segment behind segments that stand, the last with chunks
pub begin_next : (stream n : ℕ) (segments : List Segment) (s : DiskState) → CanBegin stream n segments s → n < 2 ^ 64 → HeldBelow stream n segments s × MissingFrom stream n (2 ^ 64) s
begin_next stream n segments s can lt = held_next stream n segments s can.held can.follows lt (under segments can.held can.follows can.filled)
  where
    under : (segments : List Segment) → Held stream segments s → n ≡ end_of (all_chunks segments) → Filled segments → (x : Segment) (older : List Segment) → segments ≡ x ∷ older → x.number < n
    under [] held is filled x older same = absurd (cc same)
    under (y ∷ ys) held is filled x older same =
        let head : y ≡ x = cc same in
        let end : end_of (all_chunks (y ∷ ys)) ≡ end_from y.number y.chunks = end_from-append 0 (all_chunks ys) y.chunks ∙ ap (λ (k : ℕ). end_from k y.chunks) (sym held.follows) in
        omega (arith, is, end, filled, grows 8 y.number y.chunks held.stands.chain, ap (λ (z : Segment). z.number) head)
