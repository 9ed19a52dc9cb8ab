-- What recovery finds in the files of one number.
use Rattle.std.proofs.Common.{◌≡◌, inl, inr, ℕ, zero, ◌+◌, ◌≤◌, ◌<◌, List, [], ◌∷◌, ◌++◌, length, true, refl, sym, ◌∙◌, ap, subst, arith, length-append, ◌&&◌}
use Rattle.std.proofs.lemmas.Bool.{both_ways}
use Rattle.std.proofs.lemmas.List.{append-nil}
use Rattle.disk_calls.specs.declared.file_id.FileId.{FileId}
use Rattle.disk_calls.specs.Disk.{DiskState, Image, bytes_of, Settled}
use Rattle.chunk_format.specs.declared.chunk.Chunk.{Chunk}
use Rattle.segment_pairs.specs.declared.look.Headless.{Headless}
use Rattle.segment_pairs.specs.Log.{Finder, NoMatch, Pair, begins, segment_header, index_header, pair_log, chunks_behind, flat, records, segment_of, index_of}
use Rattle.segment_pairs.specs.Held.{segment_file, index_file, files_of, Stands, FoundTorn}
use Rattle.segment_pairs.specs.Found.{Walked, Sure, Lacks, Reads, SureOf}
use Rattle.segment_pairs.proofs.Reading.{begins_self, step_no}
use Rattle.segment_pairs.proofs.Pairs.{pair_front, pair_headless, length-segment, length-index}
use Rattle.segment_store.specs.Recovery.{Exceeds, IsEnough, IsSpoiltHead, IsTooMuch, IsUneven}

-- files of which one has not its whole header
abbrev pub LacksAt : ℕ → ℕ → Headless → DiskState → Type 0
LacksAt stream n h s = SureOf stream n s (λ seg idx. Lacks seg idx h.segment_whole h.index_whole h.size h.index_size)

-- files that were read
abbrev pub ReadsAt : ℕ → ℕ → ℕ → ℕ → ℕ → List Chunk → ℕ → ℕ → DiskState → Type 0
ReadsAt stream n place index_place end chunks size index_size s = SureOf stream n s (λ seg idx. Reads n seg idx place index_place end chunks size index_size)

sure_seen : (f : FileId) (bytes : List ℕ) (s : DiskState) → Sure f bytes s → bytes_of (s.seen f) ≡ bytes
sure_seen f bytes s (inl none) = ap (λ (c : Image). bytes_of c) none.0 ∙ sym none.1
sure_seen f bytes s (inr settled) = ap (λ (c : Image). bytes_of c) settled.seen

sure_settled : (f : FileId) (bytes : List ℕ) (s : DiskState) → 8 ≤ length bytes → Sure f bytes s → Settled f bytes s
sure_settled f bytes s long (inl none) = absurd (omega (arith, long, ap length none.1))
sure_settled f bytes s long (inr settled) = settled

-- what is seen of both
sure_pair : (stream n : ℕ) (s : DiskState) (P : List ℕ → List ℕ → Type 0) (r : SureOf stream n s P) → files_of stream s.seen n ≡ (r.seg, r.idx)
sure_pair stream n s P r = λ i. (sure_seen (segment_file stream n) r.seg s r.segment i, sure_seen (index_file stream n) r.idx s r.index i)

-- ---- without a header

pub both_begin : (cs : List Chunk) (e r : List ℕ) → (begins segment_header (segment_of cs ++ e) ≡ true) × (begins index_header (index_of cs ++ r) ≡ true)
unfolding segment_of index_of
both_begin cs e r = (begins_self segment_header (flat cs ++ e), begins_self index_header (records 8 cs ++ r))

lacks_log : (F : Finder) (n : ℕ) (seg idx : List ℕ) (h : Headless) → Lacks seg idx h.segment_whole h.index_whole h.size h.index_size → pair_log F n (seg, idx) ≡ []
lacks_log F n seg idx h lacks = pair_headless F n seg idx ((λ i. sym lacks.segment i && sym lacks.index i) ∙ lacks.either)

pub headless_log : (F : Finder) (stream n : ℕ) (h : Headless) (s : DiskState) → LacksAt stream n h s → pair_log F n (files_of stream s.seen n) ≡ []
headless_log F stream n h s r = ap (λ (p : Pair). pair_log F n p) (sure_pair stream n s _ r) ∙ lacks_log F n r.seg r.idx h r.shows

-- such files are not chunks and nothing else
lacks_uneven : (n : ℕ) (seg idx : List ℕ) (h : Headless) → Lacks seg idx h.segment_whole h.index_whole h.size h.index_size → IsUneven n (seg, idx) 0
lacks_uneven n seg idx h lacks F =
    let none = lacks_log F n seg idx h lacks in
    let cs = pair_log F n (seg, idx) in (
      (λ are.
          let both = both_begin cs [] [] in
          let one : h.segment_whole ≡ true = lacks.segment ∙ ap (λ (l : List ℕ). begins segment_header l) (are.0 ∙ sym (append-nil (segment_of cs))) ∙ both.0 in
          let two : h.index_whole ≡ true = lacks.index ∙ ap (λ (l : List ℕ). begins index_header l) (are.1 ∙ sym (append-nil (index_of cs))) ∙ both.1 in
          let yes_ : (h.segment_whole && h.index_whole) ≡ true = (λ i. one i && two i) in
          both_ways (h.segment_whole && h.index_whole) lacks.either yes_),
      sym (ap length none),
    )

pub headless_uneven : (stream n : ℕ) (h : Headless) (s : DiskState) → LacksAt stream n h s → IsUneven n (files_of stream s.seen n) 0
headless_uneven stream n h s r = subst (λ (p : Pair). IsUneven n p 0) (sym (sure_pair stream n s _ r)) (lacks_uneven n r.seg r.idx h r.shows)

spoilt_is : (n : ℕ) (seg idx : List ℕ) (h : Headless) → Lacks seg idx h.segment_whole h.index_whole h.size h.index_size → IsSpoiltHead n h → IsTooMuch n (seg, idx) []
spoilt_is n seg idx h lacks (inl long) = inl (omega (arith, long, lacks.index_size_is))
spoilt_is n seg idx h lacks (inr (zero_, inl one)) = inr (zero_, inl (omega (arith, one.0, lacks.size_is), sym lacks.segment ∙ one.1))
spoilt_is n seg idx h lacks (inr (zero_, inr two)) = inr (zero_, inr (omega (arith, two.0, lacks.index_size_is), sym lacks.index ∙ two.1))

is_spoilt : (n : ℕ) (seg idx : List ℕ) (h : Headless) → Lacks seg idx h.segment_whole h.index_whole h.size h.index_size → IsTooMuch n (seg, idx) [] → IsSpoiltHead n h
is_spoilt n seg idx h lacks (inl long) = inl (omega (arith, long, lacks.index_size_is))
is_spoilt n seg idx h lacks (inr (zero_, inl one)) = inr (zero_, inl (omega (arith, one.0, lacks.size_is), lacks.segment ∙ one.1))
is_spoilt n seg idx h lacks (inr (zero_, inr two)) = inr (zero_, inr (omega (arith, two.0, lacks.index_size_is), lacks.index ∙ two.1))

pub headless_exceeds : (stream n : ℕ) (h : Headless) (s : DiskState) → LacksAt stream n h s → IsSpoiltHead n h → Exceeds n (files_of stream s.seen n) 0
headless_exceeds stream n h s r spoilt =
    subst (λ (p : Pair). Exceeds n p 0) (sym (sure_pair stream n s _ r)) (λ F.
    let none = lacks_log F n r.seg r.idx h r.shows in
    (subst (λ (l : List Chunk). IsTooMuch n (r.seg, r.idx) l) (sym none) (spoilt_is n r.seg r.idx h r.shows spoilt), sym (ap length none)))

pub headless_enough : (stream n : ℕ) (h : Headless) (s : DiskState) → LacksAt stream n h s → (IsSpoiltHead n h → ⊥) → IsEnough n (files_of stream s.seen n)
headless_enough stream n h s r unspoilt =
    subst (λ (p : Pair). IsEnough n p) (sym (sure_pair stream n s _ r)) (λ F more.
    unspoilt (is_spoilt n r.seg r.idx h r.shows (subst (λ (l : List Chunk). IsTooMuch n (r.seg, r.idx) l) (lacks_log F n r.seg r.idx h r.shows) more)))

-- ---- with both

walked_long : (n : ℕ) (seg idx : List ℕ) (place index_place end : ℕ) (chunks : List Chunk) → Walked n seg idx place index_place end chunks → (8 ≤ length seg) × (8 ≤ length idx)
walked_long n seg idx place index_place end chunks w =
    (omega (arith, ap length w.walks.segment, length-append (segment_of chunks) w.rest, length-segment chunks), omega (arith, ap length w.walks.index, length-append (index_of chunks) w.index_rest, length-index chunks))

walked_log : (F : Finder) (n : ℕ) (seg idx : List ℕ) (place index_place end : ℕ) (chunks : List Chunk) → Walked n seg idx place index_place end chunks → pair_log F n (seg, idx) ≡ chunks
walked_log F n seg idx place index_place end chunks w =
    let at : place ≡ 8 + length (flat chunks) = omega (arith, w.walks.ends, length-segment chunks) in
    (λ i. pair_log F n (w.walks.segment i, w.walks.index i)) ∙ pair_front F n chunks w.rest w.index_rest w.walks.chain
    ∙ ap (λ (l : List Chunk). chunks ++ l) ((λ i. chunks_behind F zero (sym at i) (sym w.walks.end_is i) w.rest w.index_rest) ∙ step_no F place end w.rest w.index_rest w.stops)
    ∙ append-nil chunks

pub read_log : (F : Finder) (stream n place index_place end : ℕ) (chunks : List Chunk) (size index_size : ℕ) (s : DiskState) → ReadsAt stream n place index_place end chunks size index_size s → pair_log F n (files_of stream s.seen n) ≡ chunks
read_log F stream n place index_place end chunks size index_size s r = ap (λ (p : Pair). pair_log F n p) (sure_pair stream n s _ r) ∙ walked_log F n r.seg r.idx place index_place end chunks r.shows.walked

-- so many bytes stand behind the chunks
pub read_torn : (stream n place index_place end : ℕ) (chunks : List Chunk) (size index_size : ℕ) (s : DiskState) → ReadsAt stream n place index_place end chunks size index_size s → index_size ≤ index_place + 29
    → (t : FoundTorn stream n chunks place index_place s) × (size ≡ place + length t.rest) × (index_size ≡ index_place + length t.index_rest)
read_torn stream n place index_place end chunks size index_size s r le =
    let w = r.shows.walked in
    let long = walked_long n r.seg r.idx place index_place end chunks w in
    let behind : size ≡ place + length w.rest = omega (arith, r.shows.size_is, ap length w.walks.segment, length-append (segment_of chunks) w.rest, w.walks.ends) in
    let index_behind : index_size ≡ index_place + length w.index_rest = omega (arith, r.shows.index_size_is, ap length w.walks.index, length-append (index_of chunks) w.index_rest, w.walks.index_ends) in (
      record {
        rest = w.rest;
        index_rest = w.index_rest;
        segment = subst (λ (l : List ℕ). Settled (segment_file stream n) l s) w.walks.segment (sure_settled (segment_file stream n) r.seg s long.0 r.segment);
        index = subst (λ (l : List ℕ). Settled (index_file stream n) l s) w.walks.index (sure_settled (index_file stream n) r.idx s long.1 r.index);
        chain = w.walks.chain;
        short = omega (arith, le, index_behind);
        stops = subst (λ (k : ℕ). NoMatch place k w.rest w.index_rest) w.walks.end_is w.stops;
        ends = w.walks.ends;
        index_ends = w.walks.index_ends;
      },
      behind,
      index_behind,
    )

none_left : (xs : List ℕ) → length xs ≡ 0 → xs ≡ []
none_left [] is = refl
none_left (x ∷ xs) is = absurd (omega (arith, is))

-- where none do the files stand
pub torn_stands : (stream n : ℕ) (cs : List Chunk) (place index_place size index_size : ℕ) (s : DiskState) (t : FoundTorn stream n cs place index_place s) → size ≡ place + length t.rest → index_size ≡ index_place + length t.index_rest → size ≡ place → index_size ≡ index_place
    → Stands stream (record { number = n; chunks = cs }) s
torn_stands stream n cs place index_place size index_size s t behind index_behind one two =
    let rest : segment_of cs ++ t.rest ≡ segment_of cs = ap (λ (l : List ℕ). segment_of cs ++ l) (none_left t.rest (omega (arith, behind, one))) ∙ append-nil (segment_of cs) in
    let index_rest : index_of cs ++ t.index_rest ≡ index_of cs = ap (λ (l : List ℕ). index_of cs ++ l) (none_left t.index_rest (omega (arith, index_behind, two))) ∙ append-nil (index_of cs) in
    record {
      segment = subst (λ (l : List ℕ). Settled (segment_file stream n) l s) rest t.segment;
      index = subst (λ (l : List ℕ). Settled (index_file stream n) l s) index_rest t.index;
      chain = t.chain;
    }

pub read_stands : (stream n place index_place end : ℕ) (chunks : List Chunk) (size index_size : ℕ) (s : DiskState) → ReadsAt stream n place index_place end chunks size index_size s → size ≡ place → index_size ≡ index_place → Stands stream (record { number = n; chunks = chunks }) s
read_stands stream n place index_place end chunks size index_size s r one two =
    let torn = read_torn stream n place index_place end chunks size index_size s r (omega (arith, two)) in
    torn_stands stream n chunks place index_place size index_size s torn.0 torn.1 torn.2 one two

-- where some do they are not chunks and nothing else
pub read_uneven : (stream n place index_place end : ℕ) (chunks : List Chunk) (size index_size at : ℕ) (s : DiskState) → ReadsAt stream n place index_place end chunks size index_size s → (size ≡ place → index_size ≡ index_place → ⊥) → at ≡ length chunks
    → IsUneven n (files_of stream s.seen n) at
read_uneven stream n place index_place end chunks size index_size at s r uneven count F =
    let log = read_log F stream n place index_place end chunks size index_size s r in
    let pair = sure_pair stream n s _ r in
    let w = r.shows.walked.walks in (
      (λ are.
          let one : r.seg ≡ segment_of chunks = sym (ap (λ (p : Pair). p.0) pair) ∙ are.0 ∙ ap segment_of log in
          let two : r.idx ≡ index_of chunks = sym (ap (λ (p : Pair). p.1) pair) ∙ are.1 ∙ ap index_of log in
          uneven (omega (arith, r.shows.size_is, ap length one, w.ends)) (omega (arith, r.shows.index_size_is, ap length two, w.index_ends))),
      count ∙ sym (ap length log),
    )

-- more than one record behind them
pub read_exceeds : (stream n place index_place end : ℕ) (chunks : List Chunk) (size index_size at : ℕ) (s : DiskState) → ReadsAt stream n place index_place end chunks size index_size s → index_place + 29 < index_size → at ≡ length chunks → Exceeds n (files_of stream s.seen n) at
read_exceeds stream n place index_place end chunks size index_size at s r more count F =
    let log = read_log F stream n place index_place end chunks size index_size s r in
    let pair = sure_pair stream n s _ r in
    (inl (omega (arith, ap length log, ap (λ (p : Pair). length p.1) pair, r.shows.index_size_is, r.shows.walked.walks.index_ends, length-index chunks, more)), count ∙ sym (ap length log))

header_is : (n : ℕ) (seg idx : List ℕ) (place index_place end : ℕ) (chunks : List Chunk) → Walked n seg idx place index_place end chunks → (begins segment_header seg ≡ true) × (begins index_header idx ≡ true)
header_is n seg idx place index_place end chunks w =
    let both = both_begin chunks w.rest w.index_rest in
    (ap (λ (l : List ℕ). begins segment_header l) w.walks.segment ∙ both.0, ap (λ (l : List ℕ). begins index_header l) w.walks.index ∙ both.1)

pub read_enough : (stream n place index_place end : ℕ) (chunks : List Chunk) (size index_size : ℕ) (s : DiskState) → ReadsAt stream n place index_place end chunks size index_size s → index_size ≤ index_place + 29 → IsEnough n (files_of stream s.seen n)
read_enough stream n place index_place end chunks size index_size s r le F more =
    let log = read_log F stream n place index_place end chunks size index_size s r in
    let pair = sure_pair stream n s _ r in
    let w = r.shows.walked in
    let both = header_is n r.seg r.idx place index_place end chunks w in
    elim more [
      | inl long ↦ absurd (omega (arith, ap length log, ap (λ (p : Pair). length p.1) pair, r.shows.index_size_is, w.walks.index_ends, length-index chunks, le, long))
      | inr (zero_, inl one) ↦ both_ways (begins segment_header r.seg) (ap (λ (p : Pair). begins segment_header p.0) (sym pair) ∙ one.1) both.0
      | inr (zero_, inr two) ↦ both_ways (begins index_header r.idx) (ap (λ (p : Pair). begins index_header p.1) (sym pair) ∙ two.1) both.1
    ]
