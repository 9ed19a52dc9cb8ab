-- The log of a segment and its index, while one of the two changes.
use Rattle.std.proofs.Common.{◌≡◌, ◌⊎◌, inl, inr, ℕ, zero, suc, ◌+◌, ◌*◌, ◌-◌, ◌≤◌, ◌<◌, ◌^◌, List, [], ◌∷◌, ◌++◌, length, take, drop, Bool, true, false, refl, sym, ◌∙◌, ap, subst, arith, append_assoc, length-append, if◌then◌else◌, ◌&&◌}
use Rattle.std.proofs.lemmas.List.{append-nil, drop_all, length-take, length-drop}
use Rattle.std.proofs.lemmas.Bool.{cases_lt}
use Rattle.std.proofs.Math.Seq.{take-append-add}
use Rattle.chunk_format.specs.declared.chunk.Chunk.{Chunk}
use Rattle.chunk_format.specs.Chunks.{end_of_chunk, IsChunk}
use Rattle.chunk_format.specs.Logs.{end_from}
use Rattle.segment_pairs.specs.Log.{Finder, spelled, size_of, segment_header, index_header, record_of, begins, chunks_behind, pair_log, Chain, flat, records, segment_of, index_of}
use Rattle.segment_pairs.specs.Held.{Front}
use Rattle.segment_pairs.proofs.Reading.{length-record, step_no, step_chunk, no_match_short, behind_spelled, behind_one}

pub end_from-append : (end : ℕ) (xs ys : List Chunk) → end_from end (xs ++ ys) ≡ end_from (end_from end xs) ys
end_from-append end [] ys = refl
end_from-append end (a ∷ xs) ys = end_from-append (end_of_chunk a) xs ys

flat-append : (xs ys : List Chunk) → flat (xs ++ ys) ≡ flat xs ++ flat ys
flat-append [] ys = refl
flat-append (a ∷ xs) ys = ap (λ (l : List ℕ). spelled a ++ l) (flat-append xs ys) ∙ sym (append_assoc (spelled a) (flat xs) (flat ys))

records-append : (place : ℕ) (xs ys : List Chunk) → records place (xs ++ ys) ≡ records place xs ++ records (place + length (flat xs)) ys
records-append place [] ys = ap (λ (n : ℕ). records n ys) (omega arith)
records-append place (a ∷ xs) ys =
    ap (λ (l : List ℕ). record_of place a ++ l) (records-append (place + size_of a) xs ys)
    ∙ sym (append_assoc (record_of place a) (records (place + size_of a) xs) (records (place + size_of a + length (flat xs)) ys))
    ∙ ap (λ (n : ℕ). (record_of place a ++ records (place + size_of a) xs) ++ records n ys) (omega (arith, length-append (spelled a) (flat xs)))

pub length-records : (place : ℕ) (cs : List Chunk) → length (records place cs) ≡ 29 * length cs
length-records place [] = refl
length-records place (c ∷ cs) = omega (arith, length-append (record_of place c) (records (place + size_of c) cs), length-record place c, length-records (place + size_of c) cs)

pub length-index : (cs : List Chunk) → length (index_of cs) ≡ 8 + 29 * length cs
unfolding index_of
length-index cs = omega (arith, length-records 8 cs)

pub length-segment : (cs : List Chunk) → length (segment_of cs) ≡ 8 + length (flat cs)
unfolding segment_of
length-segment cs = omega arith

pub segment-push : (cs : List Chunk) (c : Chunk) → segment_of (cs ++ c ∷ []) ≡ segment_of cs ++ spelled c
unfolding segment_of
segment-push cs c = ap (λ (l : List ℕ). segment_header ++ l) (flat-append cs (c ∷ []) ∙ ap (λ (l : List ℕ). flat cs ++ l) (append-nil (spelled c)))

pub index-push : (cs : List Chunk) (c : Chunk) → index_of (cs ++ c ∷ []) ≡ index_of cs ++ record_of (length (segment_of cs)) c
unfolding segment_of index_of
index-push cs c = ap (λ (l : List ℕ). index_header ++ l) (records-append 8 cs (c ∷ []) ∙ (λ i. records 8 cs ++ append-nil (record_of (eight i) c) i))
  where
    eight : 8 + length (flat cs) ≡ length (segment_header ++ flat cs)
    eight = omega arith

pub Chain-append : (place end : ℕ) (xs ys : List Chunk) → Chain place end xs → Chain (place + length (flat xs)) (end_from end xs) ys → Chain place end (xs ++ ys)
Chain-append place end [] ys fit more = subst (λ (n : ℕ). Chain n end ys) (omega arith) more
Chain-append place end (a ∷ xs) ys fit more =
    (fit.0, fit.1, fit.2, Chain-append (place + size_of a) (end_of_chunk a) xs ys fit.3 (subst (λ (n : ℕ). Chain n (end_from (end_of_chunk a) xs) ys) (omega (arith, length-append (spelled a) (flat xs))) more))

pub Chain-take : (k place end : ℕ) (cs : List Chunk) → Chain place end cs → Chain place end (take k cs)
Chain-take zero place end cs fit = tt
Chain-take (suc k) place end [] fit = tt
Chain-take (suc k) place end (c ∷ cs) fit = (fit.0, fit.1, fit.2, Chain-take k (place + size_of c) (end_of_chunk c) cs fit.3)

-- both headers in front
pair_open : (F : Finder) (end : ℕ) (cs : List Chunk) (e r : List ℕ) → pair_log F end (segment_of cs ++ e, index_header ++ r) ≡ chunks_behind F zero 8 end (flat cs ++ e) r
unfolding pair_log segment_of
pair_open F end cs e r = refl

-- whole chunks and their records in front
pub pair_front : (F : Finder) (end : ℕ) (cs : List Chunk) (e r : List ℕ) → Chain 8 end cs → pair_log F end (segment_of cs ++ e, index_of cs ++ r) ≡ cs ++ chunks_behind F zero (8 + length (flat cs)) (end_from end cs) e r
unfolding index_of
pair_front F end cs e r fit = pair_open F end cs e (records 8 cs ++ r) ∙ behind_spelled F 8 end cs e r fit

-- a longer segment changes nothing
pub pair_longer : (F : Finder) (end : ℕ) (cs : List Chunk) (e : List ℕ) → Chain 8 end cs → pair_log F end (segment_of cs ++ e, index_of cs) ≡ cs
pair_longer F end cs e fit =
    ap (λ (l : List ℕ). pair_log F end (segment_of cs ++ e, l)) (sym (append-nil (index_of cs))) ∙ pair_front F end cs e [] fit ∙ append-nil cs

pub pair_whole : (F : Finder) (end : ℕ) (cs : List Chunk) → Chain 8 end cs → pair_log F end (segment_of cs, index_of cs) ≡ cs
pair_whole F end cs fit = ap (λ (l : List ℕ). pair_log F end (l, index_of cs)) (sym (append-nil (segment_of cs))) ∙ pair_longer F end cs [] fit

-- with the chunk in the segment, at most one record more in the index
pub pair_one : (F : Finder) (end : ℕ) (cs : List Chunk) (c : Chunk) (r : List ℕ) → Chain 8 end cs → length (segment_of cs) < 2 ^ 32 → c.first ≡ end_from end cs → IsChunk c → length r ≤ 29
    → (pair_log F end (segment_of (cs ++ c ∷ []), index_of cs ++ r) ≡ cs) ⊎ (pair_log F end (segment_of (cs ++ c ∷ []), index_of cs ++ r) ≡ cs ++ c ∷ [])
pair_one F end cs c r fit small from is le =
    let first : pair_log F end (segment_of (cs ++ c ∷ []), index_of cs ++ r) ≡ cs ++ chunks_behind F zero (8 + length (flat cs)) (end_from end cs) (spelled c ++ []) r =
    ap (λ (l : List ℕ). pair_log F end (l, index_of cs ++ r)) (segment-push cs c ∙ ap (λ (l : List ℕ). segment_of cs ++ l) (sym (append-nil (spelled c)))) ∙ pair_front F end cs (spelled c ++ []) r fit in
    elim (behind_one F (8 + length (flat cs)) (end_from end cs) c [] r (omega (arith, small, length-segment cs)) from is le) [
      | inl none ↦ inl (first ∙ ap (λ (l : List Chunk). cs ++ l) none ∙ append-nil cs)
      | inr one ↦ inr (first ∙ ap (λ (l : List Chunk). cs ++ l) one)
    ]

-- an index that is cut short
behind_cut : (F : Finder) (place end k m : ℕ) (cs : List Chunk) (e : List ℕ) → Chain place end cs → m ≤ length cs → 29 * m ≤ k → Front m cs (chunks_behind F zero place end (flat cs ++ e) (take k (records place cs)))
behind_cut F place end zero m [] e fit le cut = record { size = 0; enough = omega arith; is = refl }
behind_cut F place end (suc k) m [] e fit le cut = record { size = 0; enough = omega arith; is = refl }
behind_cut F place end k m (c ∷ cs) e fit le cut = elim (cases_lt k 29) [
  | inl lt ↦ record {
    size = 0;
    enough = omega arith;
    is = step_no F place end (flat (c ∷ cs) ++ e) (take k (records place (c ∷ cs))) (no_match_short place end (flat (c ∷ cs) ++ e) (take k (records place (c ∷ cs))) (omega (arith, length-take k (records place (c ∷ cs)))));
  }
  | inr ge ↦
      let rest = behind_cut F (place + size_of c) (end_of_chunk c) (k - 29) (m - 1) cs e fit.3 (omega arith) (omega arith) in
      let split : take k (records place (c ∷ cs)) ≡ record_of place c ++ take (k - 29) (records (place + size_of c) cs) =
      ap (λ (n : ℕ). take n (records place (c ∷ cs))) (omega (arith, length-record place c)) ∙ take-append-add (record_of place c) (records (place + size_of c) cs) (k - 29) in
      record {
        size = suc rest.size;
        enough = omega (arith, rest.enough);
        is = (λ i. chunks_behind F zero place end (append_assoc (spelled c) (flat cs) e i) (split i))
            ∙ step_chunk F place end c (flat cs ++ e) (take (k - 29) (records (place + size_of c) cs)) fit.0 fit.1 fit.2
            ∙ ap (λ (l : List Chunk). c ∷ l) rest.is;
      }
]

pub take_header : (k : ℕ) (l : List ℕ) → 8 ≤ k → take k (index_header ++ l) ≡ index_header ++ take (k - 8) l
take_header k l le = ap (λ (n : ℕ). take n (index_header ++ l)) (omega arith) ∙ take-append-add index_header l (k - 8)

-- a front of the index gives a front of the log
pub pair_cut : (F : Finder) (end k m : ℕ) (cs : List Chunk) (e : List ℕ) → Chain 8 end cs → m ≤ length cs → 8 + 29 * m ≤ k → Front m cs (pair_log F end (segment_of cs ++ e, take k (index_of cs)))
unfolding index_of
pair_cut F end k m cs e fit le cut =
    let found = behind_cut F 8 end (k - 8) m cs e fit le (omega arith) in
    record {
      size = found.size;
      enough = found.enough;
      is = ap (λ (l : List ℕ). pair_log F end (segment_of cs ++ e, l)) (take_header k (records 8 cs) (omega arith)) ∙ pair_open F end cs e (take (k - 8) (records 8 cs)) ∙ found.is;
    }

cond_same : (b : Bool) (x y : List Chunk) → x ≡ y → (if b then x else y) ≡ y
cond_same true x y is = is
cond_same false x y is = refl

-- an index with at most its header has no records
pub pair_short : (F : Finder) (end : ℕ) (seg idx : List ℕ) → length idx ≤ 8 → pair_log F end (seg, idx) ≡ []
unfolding pair_log
pair_short F end seg idx le = cond_same (begins segment_header seg && begins index_header idx) (chunks_behind F zero 8 end (drop 8 seg) (drop 8 idx)) [] (ap (λ (l : List ℕ). chunks_behind F zero 8 end (drop 8 seg) l) (drop_all 8 idx le))

-- without both headers there is no log
pub pair_headless : (F : Finder) (end : ℕ) (seg idx : List ℕ) → (begins segment_header seg && begins index_header idx) ≡ false → pair_log F end (seg, idx) ≡ []
unfolding pair_log
pair_headless F end seg idx unmet = ap (λ (b : Bool). if b then chunks_behind F zero 8 end (drop 8 seg) (drop 8 idx) else []) unmet

cond_either : (b : Bool) (x : List Chunk) (c : Chunk) → (x ≡ []) ⊎ (x ≡ c ∷ []) → ((if b then x else []) ≡ []) ⊎ ((if b then x else []) ≡ c ∷ [])
cond_either true x c is = is
cond_either false x c is = inl refl

-- a new segment with its chunk, and an index of at most a header and a record
pub pair_new : (F : Finder) (end : ℕ) (c : Chunk) (idx : List ℕ) → c.first ≡ end → IsChunk c → length idx ≤ 37 → (pair_log F end (segment_of (c ∷ []), idx) ≡ []) ⊎ (pair_log F end (segment_of (c ∷ []), idx) ≡ c ∷ [])
unfolding pair_log segment_of
pair_new F end c idx first is le = cond_either (begins index_header idx) (chunks_behind F zero 8 end (spelled c ++ []) (drop 8 idx)) c (behind_one F 8 end c [] (drop 8 idx) (omega arith) first is (omega (arith, length-drop 8 idx)))
