-- What a cut of a torn end leaves.
use Rattle.std.proofs.Common.{◌≡◌, inl, inr, ℕ, zero, ◌+◌, ◌-◌, ◌≤◌, List, [], ◌++◌, length, take, Some, sym, ◌∙◌, ap, arith}
use Rattle.std.proofs.lemmas.List.{append-nil, take_at, take_all, length-take}
use Rattle.std.proofs.lemmas.Bool.{cases_lt}
use Rattle.std.proofs.Math.Seq.{take-append-add}
use Rattle.disk_calls.specs.Disk.{DiskState, Image, bytes_of, Settled, Elsewhere, Shorter}
use Rattle.chunk_format.specs.declared.chunk.Chunk.{Chunk}
use Rattle.chunk_format.specs.Logs.{end_from}
use Rattle.segment_pairs.specs.Log.{Finder, NoMatch, chunks_behind, pair_log, flat, segment_of, index_of}
use Rattle.segment_pairs.specs.Held.{segment_file, index_file, Stands, EachPair, FoundTorn}
use Rattle.segment_pairs.proofs.Reading.{step_no, no_match_short}
use Rattle.segment_pairs.proofs.Pairs.{pair_front, pair_longer, length-segment}
use Rattle.segment_pairs.proofs.Moving.{apart, apart_back, settled_stays, settled_is}

-- a front of a record that does not match
front_none : (F : Finder) (place end m : ℕ) (e r : List ℕ) → length r ≤ 29 → NoMatch place end e r → chunks_behind F zero place end e (take m r) ≡ []
front_none F place end m e r le stops = elim (cases_lt m 29) [
  | inl lt ↦ step_no F place end e (take m r) (no_match_short place end e (take m r) (omega (arith, length-take m r, lt)))
  | inr ge ↦ ap (λ (l : List ℕ). chunks_behind F zero place end e l) (take_all m r (omega (arith, le, ge))) ∙ step_no F place end e r stops
]

-- the log of a torn pair, and with a front of the rest of its index
torn_log : (F : Finder) (stream n : ℕ) (cs : List Chunk) (size index_size m : ℕ) (s : DiskState) (t : FoundTorn stream n cs size index_size s) → pair_log F n (segment_of cs ++ t.rest, index_of cs ++ take m t.index_rest) ≡ cs
torn_log F stream n cs size index_size m s t =
    let place : size ≡ 8 + length (flat cs) = omega (arith, t.ends, length-segment cs) in
    pair_front F n cs t.rest (take m t.index_rest) t.chain
    ∙ ap (λ (l : List Chunk). cs ++ l) (ap (λ (k : ℕ). chunks_behind F zero k (end_from n cs) t.rest (take m t.index_rest)) (sym place) ∙ front_none F size (end_from n cs) m t.rest t.index_rest t.short t.stops)
    ∙ append-nil cs

pub torn_pair : (stream n : ℕ) (cs : List Chunk) (size index_size : ℕ) (s : DiskState) → FoundTorn stream n cs size index_size s → EachPair stream n (λ l. l ≡ cs) s
torn_pair stream n cs size index_size s t F a b left_a left_b =
    let one = t.segment.only a left_a in
    let two = t.index.only b left_b in
    (λ i. pair_log F n (bytes_of (one i), bytes_of (two i)))
    ∙ ap (λ (l : List ℕ). pair_log F n (segment_of cs ++ t.rest, index_of cs ++ l)) (sym (take_all (length t.index_rest) t.index_rest (omega arith)))
    ∙ torn_log F stream n cs size index_size (length t.index_rest) s t

-- a cut of what stands behind
pub cut_behind : (xs e : List ℕ) (k : ℕ) → length xs ≤ k → take k (xs ++ e) ≡ xs ++ take (k - length xs) e
cut_behind xs e k le = ap (λ (n : ℕ). take n (xs ++ e)) (omega (arith, le)) ∙ take-append-add xs e (k - length xs)

-- while the index is cut
pub index_trims : (stream n : ℕ) (cs : List Chunk) (size index_size : ℕ) (s u : DiskState) (t : FoundTorn stream n cs size index_size s)
    → ((c : Image) → u.images (index_file stream n) c → Shorter (index_of cs ++ t.index_rest) index_size c) → Elsewhere (index_file stream n) s u → EachPair stream n (λ l. l ≡ cs) u
index_trims stream n cs size index_size s u t shorter stays F a b left_a left_b =
    let cut = shorter b left_b in
    let one = t.segment.only a (stays.images (segment_file stream n) (apart stream n n) a left_a) in
    let two : b ≡ Some (index_of cs ++ take (cut.0 - length (index_of cs)) t.index_rest) = cut.1 ∙ ap (λ (l : List ℕ). Some l) (cut_behind (index_of cs) t.index_rest cut.0 (omega (arith, cut.2, t.index_ends))) in
    (λ i. pair_log F n (bytes_of (one i), bytes_of (two i))) ∙ torn_log F stream n cs size index_size (cut.0 - length (index_of cs)) s t

pub index_trimmed : (stream n : ℕ) (cs : List Chunk) (size index_size : ℕ) (s u : DiskState) (t : FoundTorn stream n cs size index_size s) → Settled (index_file stream n) (take index_size (index_of cs ++ t.index_rest)) u → Settled (index_file stream n) (index_of cs) u
index_trimmed stream n cs size index_size s u t settled = settled_is (index_file stream n) (take index_size (index_of cs ++ t.index_rest)) (index_of cs) u (take_at (index_of cs) t.index_rest index_size (sym t.index_ends)) settled

-- while the segment is cut
pub segment_trims : (stream n : ℕ) (cs : List Chunk) (size index_size : ℕ) (s u v : DiskState) (t : FoundTorn stream n cs size index_size s) → Settled (index_file stream n) (take index_size (index_of cs ++ t.index_rest)) u
    → ((c : Image) → v.images (segment_file stream n) c → Shorter (segment_of cs ++ t.rest) size c) → Elsewhere (segment_file stream n) u v → EachPair stream n (λ l. l ≡ cs) v
segment_trims stream n cs size index_size s u v t now shorter stays F a b left_a left_b =
    let cut = shorter a left_a in
    let one : a ≡ Some (segment_of cs ++ take (cut.0 - length (segment_of cs)) t.rest) = cut.1 ∙ ap (λ (l : List ℕ). Some l) (cut_behind (segment_of cs) t.rest cut.0 (omega (arith, cut.2, t.ends))) in
    let two = (index_trimmed stream n cs size index_size s u t now).only b (stays.images (index_file stream n) (apart_back stream n n) b left_b) in
    (λ i. pair_log F n (bytes_of (one i), bytes_of (two i))) ∙ pair_longer F n cs (take (cut.0 - length (segment_of cs)) t.rest) t.chain

pub pair_trimmed : (stream n : ℕ) (cs : List Chunk) (size index_size : ℕ) (s u v : DiskState) (t : FoundTorn stream n cs size index_size s) → Settled (index_file stream n) (take index_size (index_of cs ++ t.index_rest)) u
    → Settled (segment_file stream n) (take size (segment_of cs ++ t.rest)) v → Elsewhere (segment_file stream n) u v → Stands stream (record { number = n; chunks = cs }) v
pair_trimmed stream n cs size index_size s u v t now settled stays = record {
  segment = settled_is (segment_file stream n) (take size (segment_of cs ++ t.rest)) (segment_of cs) v (take_at (segment_of cs) t.rest size (sym t.ends)) settled;
  index = settled_stays (segment_file stream n) (index_file stream n) (index_of cs) u v (apart_back stream n n) stays (index_trimmed stream n cs size index_size s u t now);
  chain = t.chain;
}
