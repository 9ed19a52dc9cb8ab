-- The longest run of chunks, and the index of it.
use Rattle.std.proofs.Common.{◌≡◌, ◌⊎◌, inl, inr, ℕ, zero, suc, ◌+◌, ◌-◌, ◌≤◌, List, [], ◌∷◌, ◌++◌, length, drop, Bool, true, ◌==◌, if◌then◌else◌, Option, Some, None, refl, sym, ap, subst, ◌∙◌, append_assoc, length-append, arith}
use Rattle.std.proofs.lemmas.List.{append-nil, drop_at, length-drop}
use Rattle.std.proofs.lemmas.Bool.{cases_Bool, eqb-true, eq-eqb, and_from}
use Rattle.chunk_format.specs.declared.chunk.Chunk.{Chunk}
use Rattle.chunk_format.specs.Chunks.{end_of_chunk, IsChunk}
use Rattle.chunk_format.specs.Faults.{BeginsWith}
use Rattle.chunk_format.specs.Logs.{end_from}
use Rattle.segment_pairs.specs.Log.{Finder, spelled, size_of, record_of, begins, segment_header, index_header, matched, then_more, chunks_behind, pair_log, Chain, flat, records, segment_of, index_of, Matches}
use Rattle.segment_pairs.proofs.Reading.{some_bytes, begins_parts, find_front, begins_split, length-record, matched_is, step_no, step_yes, matches_found}
use Rattle.osiris_audit.specs.Fronts.{MayBegin}
use Rattle.osiris_audit.specs.Matching.{first_in, following, run_behind, run_in}
use Rattle.osiris_audit.specs.Steps.{end_known}
use Rattle.osiris_audit.specs.Indexing.{Keeps}
use Rattle.osiris_audit.proofs.Matched.{first_is}

-- ---- one chunk

run_drop : (F : Finder) (k end : ℕ) (seg : List ℕ) → run_behind F k end seg ≡ run_behind F zero end (drop k seg)
run_drop F zero end seg = refl
run_drop F (suc k) end [] = refl
run_drop F (suc k) end (b ∷ seg) = run_drop F k end seg

following_is : (end : ℕ) (c : Chunk) → c.first ≡ end → following end (Some c) ≡ Some c
following_is end c is = ap (λ (b : Bool). if b then Some c else None) (eq-eqb c.first end is)

following_one : (end : ℕ) (o : Option Chunk) (c : Chunk) → following end o ≡ Some c → (o ≡ Some c) × (c.first ≡ end)
following_one end None c is = absurd (cc is)
following_one end (Some d) c is = elim (cases_Bool (d.first == end)) [
  | inl yes_ ↦
      let same : d ≡ c = cc (sym (ap (λ (b : Bool). if b then Some d else None) yes_) ∙ is) in
      (ap (λ (x : Chunk). Some x) same, ap (λ (x : Chunk). x.first) (sym same) ∙ eqb-true d.first end yes_)
  | inr no_ ↦ absurd (cc (sym (ap (λ (b : Bool). if b then Some d else None) no_) ∙ is))
]

run_yes : (F : Finder) (end : ℕ) (c : Chunk) (rest : List ℕ) → c.first ≡ end → IsChunk c → run_behind F zero end (spelled c ++ rest) ≡ c ∷ run_behind F zero (end_of_chunk c) rest
run_yes F end c rest first is = at (spelled c ++ rest) refl
  where
    at : (bytes : List ℕ) → bytes ≡ spelled c ++ rest → run_behind F zero end bytes ≡ c ∷ run_behind F zero (end_of_chunk c) rest
    at [] e = absurd (omega (arith, ap length e, length-append (spelled c) rest, some_bytes c))
    at (b ∷ bytes) e =
        let found : following end (F.find (b ∷ bytes)) ≡ Some c = ap (λ (l : List ℕ). following end (F.find l)) e ∙ ap (following end) (find_front F c rest is) ∙ following_is end c first in
        let size : size_of c ≡ suc (size_of c - 1) = omega (arith, some_bytes c) in
        let behind : drop (size_of c - 1) bytes ≡ rest = sym (ap (λ (k : ℕ). drop k (b ∷ bytes)) size) ∙ ap (drop (size_of c)) e ∙ drop_at (spelled c) rest (size_of c) refl in
        ap (λ (o : Option Chunk). then_more o (λ d. run_behind F (size_of d - 1) (end_of_chunk d) bytes)) found
        ∙ ap (λ (l : List Chunk). c ∷ l) (run_drop F (size_of c - 1) (end_of_chunk c) bytes ∙ ap (run_behind F zero (end_of_chunk c)) behind)

no_option : (o : Option Chunk) → ((c : Chunk) → o ≡ Some c → ⊥) → o ≡ None
no_option None never = refl
no_option (Some c) never = absurd (never c refl)

run_no : (F : Finder) (end : ℕ) (seg : List ℕ) → ((c : Chunk) (used : ℕ) → c.first ≡ end → BeginsWith c used seg → ⊥) → run_behind F zero end seg ≡ []
run_no F end [] never = refl
run_no F end (b ∷ seg) never =
    let none : following end (F.find (b ∷ seg)) ≡ None =
    no_option (following end (F.find (b ∷ seg))) (λ c e. let one = following_one end (F.find (b ∷ seg)) c e in let at = F.found (b ∷ seg) c one.0 in never c at.0 one.1 at.1) in
    ap (λ (o : Option Chunk). then_more o (λ d. run_behind F (size_of d - 1) (end_of_chunk d) seg)) none

run_spelled : (F : Finder) (place end : ℕ) (cs : List Chunk) (rest : List ℕ) → Chain place end cs → run_behind F zero end (flat cs ++ rest) ≡ cs ++ run_behind F zero (end_from end cs) rest
run_spelled F place end [] rest fit = refl
run_spelled F place end (c ∷ cs) rest fit =
    ap (run_behind F zero end) (append_assoc (spelled c) (flat cs) rest) ∙ run_yes F end c (flat cs ++ rest) fit.1 fit.2
    ∙ ap (λ (l : List Chunk). c ∷ l) (run_spelled F (place + size_of c) (end_of_chunk c) cs rest fit.3)

-- ---- a segment

run_open : (F : Finder) (cs : List Chunk) (rest : List ℕ) → run_in F (segment_of cs ++ rest) ≡ run_behind F zero (first_in F (segment_of cs ++ rest)) (flat cs ++ rest)
unfolding run_in segment_of
run_open F cs rest = refl

run_front : (F : Finder) (n : ℕ) (cs : List Chunk) (seg rest : List ℕ) → seg ≡ segment_of cs ++ rest → Chain 8 (first_in F seg) cs → run_in F seg ≡ cs ++ run_behind F zero (end_from (first_in F seg) cs) rest
run_front F n cs seg rest is fit =
    let there : Chain 8 (first_in F (segment_of cs ++ rest)) cs = subst (λ (l : List ℕ). Chain 8 (first_in F l) cs) is fit in
    ap (run_in F) is ∙ run_open F cs rest ∙ run_spelled F 8 (first_in F (segment_of cs ++ rest)) cs rest there
    ∙ ap (λ (l : List ℕ). cs ++ run_behind F zero (end_from (first_in F l) cs) rest) (sym is)

-- the run begins with chunks that stand
pub run_begins : (F : Finder) (n : ℕ) (cs : List Chunk) (seg rest : List ℕ) → seg ≡ segment_of cs ++ rest → Chain 8 n cs → (more : List Chunk) × (run_in F seg ≡ cs ++ more)
run_begins F n [] seg rest is fit = (run_in F seg, refl)
run_begins F n (c ∷ cs) seg rest is fit =
    let first = first_is F n c cs seg rest fit is in
    (run_behind F zero (end_from (first_in F seg) (c ∷ cs)) rest, run_front F n (c ∷ cs) seg rest is (subst (λ (m : ℕ). Chain 8 m (c ∷ cs)) (sym first) fit))

-- and is these alone, where no chunk follows
pub run_stops : (F : Finder) (n : ℕ) (cs : List Chunk) (seg rest : List ℕ) → seg ≡ segment_of cs ++ rest → Chain 8 n cs → ((c : Chunk) (used : ℕ) → MayBegin (end_known cs) c.first → BeginsWith c used rest → ⊥) → run_in F seg ≡ cs
run_stops F n [] seg rest is fit never = run_front F n [] seg rest is tt ∙ run_no F (first_in F seg) rest (λ c used first at. never c used tt at)
run_stops F n (c ∷ cs) seg rest is fit never =
    let first = first_is F n c cs seg rest fit is in
    run_front F n (c ∷ cs) seg rest is (subst (λ (m : ℕ). Chain 8 m (c ∷ cs)) (sym first) fit)
    ∙ ap (λ (l : List Chunk). (c ∷ cs) ++ l) (run_no F (end_from (first_in F seg) (c ∷ cs)) rest (λ d used from at. never d used from at))
    ∙ append-nil (c ∷ cs)

-- ---- an old index

-- the chunks whose records match stand in both files
record Stand (place end : ℕ) (seg idx : List ℕ) (cs : List Chunk) : Type 0 where
  chain : Chain place end cs
  rest : List ℕ
  index_rest : List ℕ
  segment : seg ≡ flat cs ++ rest
  index : idx ≡ records place cs ++ index_rest

cases_option : (o : Option Chunk) → (o ≡ None) ⊎ ((c : Chunk) × (o ≡ Some c))
cases_option None = inl refl
cases_option (Some c) = inr (c, refl)

stand_none : (place end : ℕ) (seg idx : List ℕ) → Stand place end seg idx []
stand_none place end seg idx = record { chain = tt; rest = seg; index_rest = idx; segment = refl; index = refl }

stand_more : (place end : ℕ) (seg idx : List ℕ) (c : Chunk) (cs : List Chunk) → Matches place end seg idx c → Stand (place + size_of c) (end_of_chunk c) (drop (size_of c) seg) (drop 29 idx) cs → Stand place end seg idx (c ∷ cs)
stand_more place end seg idx c cs m s =
    let parts = begins_parts c (size_of c) seg m.begins_with in
    record {
      chain = (m.fits, m.first, parts.0, s.chain);
      rest = s.rest;
      index_rest = s.index_rest;
      segment = parts.2 ∙ ap (λ (l : List ℕ). spelled c ++ l) s.segment ∙ sym (append_assoc (spelled c) (flat cs) s.rest);
      index = m.recorded ∙ ap (λ (l : List ℕ). record_of place c ++ l) s.index ∙ sym (append_assoc (record_of place c) (records (place + size_of c) cs) s.index_rest);
    }

stand_all : (F : Finder) (n place end : ℕ) (seg idx : List ℕ) → length idx ≤ n → Stand place end seg idx (chunks_behind F zero place end seg idx)
stand_all F zero place end seg [] le = stand_none place end seg []
stand_all F zero place end seg (b ∷ idx) le = absurd (omega arith)
stand_all F (suc n) place end seg idx le = elim (cases_option (matched F place end seg idx)) [
  | inl none ↦
      subst (Stand place end seg idx) (sym (step_no F place end seg idx (λ c m. absurd (let both : None ≡ Some c = sym none ∙ matches_found F place end seg idx c m in cc both)))) (stand_none place end seg idx)
  | inr met ↦
      let c = met.0 in
      let m = matched_is F place end seg idx c met.1 in
      let long : 29 ≤ length idx = omega (arith, ap length m.recorded, length-append (record_of place c) (drop 29 idx), length-record place c) in
      subst (Stand place end seg idx) (sym (step_yes F place end seg idx c met.1))
      (stand_more place end seg idx c (chunks_behind F zero (place + size_of c) (end_of_chunk c) (drop (size_of c) seg) (drop 29 idx)) m
      (stand_all F n (place + size_of c) (end_of_chunk c) (drop (size_of c) seg) (drop 29 idx) (omega (arith, le, long, length-drop 29 idx))))
]

headed : (F : Finder) (end : ℕ) (seg idx : List ℕ) → begins segment_header seg ≡ true → begins index_header idx ≡ true → pair_log F end (seg, idx) ≡ chunks_behind F zero 8 end (drop 8 seg) (drop 8 idx)
unfolding pair_log
headed F end seg idx segment index =
    ap (λ (b : Bool). if b then chunks_behind F zero 8 end (drop 8 seg) (drop 8 idx) else []) (and_from (begins segment_header seg) (begins index_header idx) segment index)

records-append : (place : ℕ) (cs more : List Chunk) → (rest : List ℕ) × (records place (cs ++ more) ≡ records place cs ++ rest)
records-append place [] more = (records place more, refl)
records-append place (c ∷ cs) more =
    let tail = records-append (place + size_of c) cs more in
    (tail.0, ap (λ (l : List ℕ). record_of place c ++ l) tail.1 ∙ sym (append_assoc (record_of place c) (records (place + size_of c) cs) tail.0))

pub index_begins : (cs more : List Chunk) → (rest : List ℕ) × (index_of (cs ++ more) ≡ index_of cs ++ rest)
unfolding index_of
index_begins cs more = let tail = records-append 8 cs more in (tail.0, ap (λ (l : List ℕ). index_header ++ l) tail.1)

segment_is : (cs : List Chunk) (rest : List ℕ) → segment_header ++ (flat cs ++ rest) ≡ segment_of cs ++ rest
unfolding segment_of
segment_is cs rest = refl

index_is : (cs : List Chunk) (rest : List ℕ) → index_header ++ (records 8 cs ++ rest) ≡ index_of cs ++ rest
unfolding index_of
index_is cs rest = refl

pub keep_records : (F : Finder) (end : ℕ) (seg idx : List ℕ) → begins segment_header seg ≡ true → begins index_header idx ≡ true → Keeps F end seg idx
keep_records F end seg idx segment index =
    let cs = pair_log F end (seg, idx) in
    let s : Stand 8 end (drop 8 seg) (drop 8 idx) cs = subst (Stand 8 end (drop 8 seg) (drop 8 idx)) (sym (headed F end seg idx segment index)) (stand_all F (length (drop 8 idx)) 8 end (drop 8 seg) (drop 8 idx) (omega arith)) in
    let seg_parts : seg ≡ segment_of cs ++ s.rest = begins_split segment_header seg segment ∙ ap (λ (l : List ℕ). segment_header ++ l) s.segment ∙ segment_is cs s.rest in
    let idx_parts : idx ≡ index_of cs ++ s.index_rest = begins_split index_header idx index ∙ ap (λ (l : List ℕ). index_header ++ l) s.index ∙ index_is cs s.index_rest in
    let run = run_begins F end cs seg s.rest seg_parts s.chain in
    let new = index_begins cs run.0 in
    (s.index_rest, new.0, idx_parts, ap index_of run.1 ∙ new.1)
