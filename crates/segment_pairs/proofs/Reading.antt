-- What is read of records, and where reading stops.
use Rattle.std.proofs.Common.{◌≡◌, ◌⊎◌, inl, inr, ℕ, ℤ, zero, suc, ◌+◌, ◌≤◌, ◌<◌, ◌^◌, List, [], ◌∷◌, ◌++◌, length, take, drop, Bool, true, false, Option, Some, None, refl, sym, ◌∙◌, ap, subst, arith, append_assoc, length-append, take-append-drop, if◌then◌else◌, ◌==◌, ◌&&◌, nat_lt}
use Rattle.std.proofs.lemmas.List.{drop_all, take_at, drop_at, length-take}
use Rattle.std.proofs.lemmas.Bool.{cases_Bool, and_parts, and_from, and_right, eqb-true, eq-eqb}
use Rattle.frame_wire.specs.Fields.{u8_bytes, u32_bytes, u64_bytes, i64_bytes}
use Rattle.frame_wire.proofs.FieldLaws.{u8_length, u32_length, u64_length}
use Rattle.chunk_format.specs.declared.chunk.Header.{Header}
use Rattle.chunk_format.specs.declared.chunk.Chunk.{Chunk}
use Rattle.chunk_format.specs.Chunks.{kind_code, chunk_bytes, header_of, end_of_chunk, IsChunk}
use Rattle.chunk_format.specs.Faults.{BeginsWith}
use Rattle.chunk_format.specs.Index.{index_bytes}
use Rattle.chunk_format.specs.Logs.{end_from}
use Rattle.chunk_format.proofs.ChunkLaws.{chunk_length}
use Rattle.segment_pairs.specs.Log.{spelled, size_of, record_of, Finder, begins, is_recorded, if_recorded, matched, then_more, chunks_behind, Chain, flat, records, Matches, NoMatch}

i64_length : (n : ℤ) → length (i64_bytes n) ≡ 8
unfolding i64_bytes
i64_length n = refl

index_length : (h : Header) (place : ℕ) → length (index_bytes h place) ≡ 29
unfolding index_bytes
index_length h place =
    let a = length-append (u64_bytes h.first) (i64_bytes h.stamp ++ (u64_bytes h.epoch ++ (u32_bytes place ++ u8_bytes (kind_code h.kind)))) in
    let b = length-append (i64_bytes h.stamp) (u64_bytes h.epoch ++ (u32_bytes place ++ u8_bytes (kind_code h.kind))) in
    let c = length-append (u64_bytes h.epoch) (u32_bytes place ++ u8_bytes (kind_code h.kind)) in
    let d = length-append (u32_bytes place) (u8_bytes (kind_code h.kind)) in
    omega (arith, a, b, c, d, u64_length h.first, i64_length h.stamp, u64_length h.epoch, u32_length place, u8_length (kind_code h.kind))

pub length-record : (place : ℕ) (c : Chunk) → length (record_of place c) ≡ 29
unfolding record_of
length-record place c = index_length (header_of c) place

pub some_bytes : (c : Chunk) → 1 ≤ size_of c
unfolding spelled
some_bytes c = omega (arith, chunk_length c)

pub spelled_is : (c : Chunk) → spelled c ≡ chunk_bytes c
unfolding spelled
spelled_is c = refl

-- ---- one chunk

-- a chunk in front
pub begins_spelled : (c : Chunk) (e : List ℕ) → IsChunk c → BeginsWith c (size_of c) (spelled c ++ e)
begins_spelled c e is = (omega (arith, length-append (spelled c) e), record { is_chunk = is; spelled = take_at (spelled c) e (size_of c) refl ∙ spelled_is c })

-- what the bytes of a chunk in front are
pub begins_parts : (c : Chunk) (used : ℕ) (bytes : List ℕ) → BeginsWith c used bytes → IsChunk c × (used ≡ size_of c) × (bytes ≡ spelled c ++ drop (size_of c) bytes)
begins_parts c used bytes at =
    let front : take used bytes ≡ spelled c = at.1.spelled ∙ sym (spelled_is c) in
    let size : used ≡ size_of c = omega (arith, ap length front, length-take used bytes, at.0) in
    (at.1.is_chunk, size, sym (take-append-drop used bytes) ∙ ap (λ (l : List ℕ). l ++ drop used bytes) front ∙ ap (λ (k : ℕ). spelled c ++ drop k bytes) size)

pub find_front : (F : Finder) (c : Chunk) (e : List ℕ) → IsChunk c → F.find (spelled c ++ e) ≡ Some c
find_front F c e is = F.all (spelled c ++ e) c (size_of c) (begins_spelled c e is)

-- ---- one record

pub begins_self : (xs e : List ℕ) → begins xs (xs ++ e) ≡ true
begins_self [] e = refl
begins_self (x ∷ xs) e = and_from (x == x) (begins xs (xs ++ e)) (eq-eqb x x refl) (begins_self xs e)

pub begins_split : (xs bytes : List ℕ) → begins xs bytes ≡ true → bytes ≡ xs ++ drop (length xs) bytes
begins_split [] bytes is = refl
begins_split (x ∷ xs) [] is = absurd (cc is)
begins_split (x ∷ xs) (b ∷ bytes) is =
    let both = and_parts (x == b) (begins xs bytes) is in
    λ i. sym (eqb-true x b both.0) i ∷ begins_split xs bytes both.1 i

pub begins_short : (xs bytes : List ℕ) → length bytes < length xs → begins xs bytes ≡ false
begins_short [] bytes lt = absurd (omega arith)
begins_short (x ∷ xs) [] lt = refl
begins_short (x ∷ xs) (b ∷ bytes) lt = and_right (x == b) (begins xs bytes) (begins_short xs bytes (omega arith))

is_less : (n m : ℕ) → n < m → nat_lt n m ≡ true
is_less n m less = grind arith

less_is : (n m : ℕ) → nat_lt n m ≡ true → n < m
less_is n m is = grind arith

recorded_parts : (place end : ℕ) (idx : List ℕ) (c : Chunk) → is_recorded place end idx c ≡ true → (c.first ≡ end) × (place < 2 ^ 32) × (idx ≡ record_of place c ++ drop 29 idx)
unfolding is_recorded
recorded_parts place end idx c is =
    let one = and_parts (c.first == end) (nat_lt place (2 ^ 32) && begins (record_of place c) idx) is in
    let two = and_parts (nat_lt place (2 ^ 32)) (begins (record_of place c) idx) one.1 in
    (eqb-true c.first end one.0, less_is place (2 ^ 32) two.0, begins_split (record_of place c) idx two.1 ∙ ap (λ (k : ℕ). record_of place c ++ drop k idx) (length-record place c))

recorded_from : (place end : ℕ) (r : List ℕ) (c : Chunk) → c.first ≡ end → place < 2 ^ 32 → is_recorded place end (record_of place c ++ r) c ≡ true
unfolding is_recorded
recorded_from place end r c first fits =
    and_from (c.first == end) (nat_lt place (2 ^ 32) && begins (record_of place c) (record_of place c ++ r)) (eq-eqb c.first end first) (and_from (nat_lt place (2 ^ 32)) (begins (record_of place c) (record_of place c ++ r)) (is_less place (2 ^ 32) fits) (begins_self (record_of place c) r))

pub if_some : (place end : ℕ) (idx : List ℕ) (o : Option Chunk) (c : Chunk) → o ≡ Some c → if_recorded place end idx o ≡ (if is_recorded place end idx c then Some c else None)
if_some place end idx o c is = ap (λ (x : Option Chunk). if_recorded place end idx x) is

recorded_one : (place end : ℕ) (idx : List ℕ) (o : Option Chunk) (c : Chunk) → if_recorded place end idx o ≡ Some c → (o ≡ Some c) × (is_recorded place end idx c ≡ true)
recorded_one place end idx None c is = absurd (cc is)
recorded_one place end idx (Some d) c is = elim (cases_Bool (is_recorded place end idx d)) [
  | inl yes_ ↦
      let same : d ≡ c = cc (sym (ap (λ (b : Bool). if b then Some d else None) yes_) ∙ is) in
      (ap (λ (x : Chunk). Some x) same, ap (λ (x : Chunk). is_recorded place end idx x) (sym same) ∙ yes_)
  | inr no_ ↦ absurd (cc (sym (ap (λ (b : Bool). if b then Some d else None) no_) ∙ is))
]

-- a record that matches
pub matched_is : (F : Finder) (place end : ℕ) (seg idx : List ℕ) (c : Chunk) → matched F place end seg idx ≡ Some c → Matches place end seg idx c
unfolding matched
matched_is F place end seg idx c is =
    let found = recorded_one place end idx (F.find seg) c is in
    let at = F.found seg c found.0 in
    let parts = begins_parts c at.0 seg at.1 in
    let record_is = recorded_parts place end idx c found.1 in
    record { begins_with = subst (λ (k : ℕ). BeginsWith c k seg) parts.1 at.1; first = record_is.0; fits = record_is.1; recorded = record_is.2 }

pub matches_found : (F : Finder) (place end : ℕ) (seg idx : List ℕ) (c : Chunk) → Matches place end seg idx c → matched F place end seg idx ≡ Some c
unfolding matched
matches_found F place end seg idx c m =
    if_some place end idx (F.find seg) c (F.all seg c (size_of c) m.begins_with)
    ∙ ap (λ (b : Bool). if b then Some c else None) (ap (λ (l : List ℕ). is_recorded place end l c) m.recorded ∙ recorded_from place end (drop 29 idx) c m.first m.fits)

no_option : (o : Option Chunk) → ((c : Chunk) → o ≡ Some c → ⊥) → o ≡ None
no_option None never = refl
no_option (Some c) never = absurd (never c refl)

pub unmatched : (F : Finder) (place end : ℕ) (seg idx : List ℕ) → NoMatch place end seg idx → matched F place end seg idx ≡ None
unmatched F place end seg idx never = no_option (matched F place end seg idx) (λ c is. never c (matched_is F place end seg idx c is))

pub no_match_short : (place end : ℕ) (seg idx : List ℕ) → length idx < 29 → NoMatch place end seg idx
no_match_short place end seg idx lt c m = absurd (omega (arith, lt, ap length m.recorded, length-append (record_of place c) (drop 29 idx), length-record place c))

-- ---- chunks one after the other

pub behind-drop : (F : Finder) (k place end : ℕ) (seg idx : List ℕ) → chunks_behind F k place end seg idx ≡ chunks_behind F zero place end seg (drop k idx)
behind-drop F zero place end seg idx = refl
behind-drop F (suc k) place end seg [] = refl
behind-drop F (suc k) place end seg (b ∷ idx) = behind-drop F k place end seg idx

pub step_no : (F : Finder) (place end : ℕ) (seg idx : List ℕ) → NoMatch place end seg idx → chunks_behind F zero place end seg idx ≡ []
step_no F place end seg [] never = refl
step_no F place end seg (b ∷ idx) never = ap (λ (o : Option Chunk). then_more o (λ c. chunks_behind F 28 (place + size_of c) (end_of_chunk c) (drop (size_of c) seg) idx)) (unmatched F place end seg (b ∷ idx) never)

pub step_yes : (F : Finder) (place end : ℕ) (seg idx : List ℕ) (c : Chunk) → matched F place end seg idx ≡ Some c → chunks_behind F zero place end seg idx ≡ c ∷ chunks_behind F zero (place + size_of c) (end_of_chunk c) (drop (size_of c) seg) (drop 29 idx)
step_yes F place end seg [] c met = absurd (no_match_short place end seg [] (omega arith) c (matched_is F place end seg [] c met))
step_yes F place end seg (b ∷ idx) c met =
    ap (λ (o : Option Chunk). then_more o (λ d. chunks_behind F 28 (place + size_of d) (end_of_chunk d) (drop (size_of d) seg) idx)) met
    ∙ ap (λ (l : List Chunk). c ∷ l) (behind-drop F 28 (place + size_of c) (end_of_chunk c) (drop (size_of c) seg) idx)

pub chunk_matches : (place end : ℕ) (c : Chunk) (e r : List ℕ) → place < 2 ^ 32 → c.first ≡ end → IsChunk c → Matches place end (spelled c ++ e) (record_of place c ++ r) c
chunk_matches place end c e r fits first is = record {
  begins_with = begins_spelled c e is;
  first = first;
  fits = fits;
  recorded = ap (λ (l : List ℕ). record_of place c ++ l) (sym (drop_at (record_of place c) r 29 (length-record place c)));
}

-- a chunk and its record in front
pub step_chunk : (F : Finder) (place end : ℕ) (c : Chunk) (e r : List ℕ) → place < 2 ^ 32 → c.first ≡ end → IsChunk c
    → chunks_behind F zero place end (spelled c ++ e) (record_of place c ++ r) ≡ c ∷ chunks_behind F zero (place + size_of c) (end_of_chunk c) e r
step_chunk F place end c e r fits first is =
    step_yes F place end (spelled c ++ e) (record_of place c ++ r) c (matches_found F place end (spelled c ++ e) (record_of place c ++ r) c (chunk_matches place end c e r fits first is))
    ∙ (λ i. c ∷ chunks_behind F zero (place + size_of c) (end_of_chunk c) (drop_at (spelled c) e (size_of c) refl i) (drop_at (record_of place c) r 29 (length-record place c) i))

-- whole chunks and their records in front
pub behind_spelled : (F : Finder) (place end : ℕ) (cs : List Chunk) (e r : List ℕ) → Chain place end cs
    → chunks_behind F zero place end (flat cs ++ e) (records place cs ++ r) ≡ cs ++ chunks_behind F zero (place + length (flat cs)) (end_from end cs) e r
behind_spelled F place end [] e r fit = ap (λ (n : ℕ). chunks_behind F zero n end e r) (omega arith)
behind_spelled F place end (c ∷ cs) e r fit =
    (λ i. chunks_behind F zero place end (append_assoc (spelled c) (flat cs) e i) (append_assoc (record_of place c) (records (place + size_of c) cs) r i))
    ∙ step_chunk F place end c (flat cs ++ e) (records (place + size_of c) cs ++ r) fit.0 fit.1 fit.2
    ∙ ap (λ (l : List Chunk). c ∷ l) (behind_spelled F (place + size_of c) (end_of_chunk c) cs e r fit.3)
    ∙ ap (λ (n : ℕ). c ∷ cs ++ chunks_behind F zero n (end_from (end_of_chunk c) cs) e r) (omega (arith, length-append (spelled c) (flat cs)))

-- the chunk of a match in front of a chunk is that chunk
pub matched_same : (F : Finder) (place end : ℕ) (c d : Chunk) (e idx : List ℕ) → IsChunk c → Matches place end (spelled c ++ e) idx d → c ≡ d
matched_same F place end c d e idx is m = cc (sym (find_front F c e is) ∙ F.all (spelled c ++ e) d (size_of d) m.begins_with)

cases_option : (o : Option Chunk) → (o ≡ None) ⊎ ((c : Chunk) × (o ≡ Some c))
cases_option None = inl refl
cases_option (Some c) = inr (c, refl)

-- one record at most in the index
pub behind_one : (F : Finder) (place end : ℕ) (c : Chunk) (e r : List ℕ) → place < 2 ^ 32 → c.first ≡ end → IsChunk c → length r ≤ 29
    → (chunks_behind F zero place end (spelled c ++ e) r ≡ []) ⊎ (chunks_behind F zero place end (spelled c ++ e) r ≡ c ∷ [])
behind_one F place end c e r fits first is le = elim (cases_option (matched F place end (spelled c ++ e) r)) [
  | inl none ↦ inl (step_no F place end (spelled c ++ e) r (λ d m. absurd (let no_ : None ≡ Some d = sym none ∙ matches_found F place end (spelled c ++ e) r d m in cc no_)))
  | inr met ↦
      let d = met.0 in
      let m = matched_is F place end (spelled c ++ e) r d met.1 in
      let same : d ≡ c = sym (matched_same F place end c d e r is m) in
      let all : r ≡ record_of place c ++ [] = m.recorded ∙ (λ i. record_of place (same i) ++ drop_all 29 r le i) in
      inr (ap (λ (l : List ℕ). chunks_behind F zero place end (spelled c ++ e) l) all ∙ step_chunk F place end c e [] fits first is)
]
