-- Reading a segment and its index, record by record.
use Rattle.std.proofs.Common.{◌≡◌, inl, inr, ℕ, ◌+◌, ◌≤◌, ◌<◌, ◌^◌, List, [], ◌∷◌, ◌++◌, length, take, drop, Bool, true, false, Option, Some, Result, Ok, Err, refl, sym, ◌∙◌, ap, subst, arith, append_assoc, length-append, take-append-drop}
use Rattle.std.proofs.lemmas.List.{take_at}
use Rattle.std.proofs.lemmas.Bool.{cases_Bool}
use Rattle.std.specs.Prelude.{IsTrue, ◌↔◌, OnOk}
use Rattle.chunk_format.specs.declared.chunk.Chunk.{Chunk}
use Rattle.chunk_format.specs.declared.stored.ReadStored.{ReadStored}
use Rattle.chunk_format.specs.Chunks.{end_of_chunk}
use Rattle.chunk_format.specs.Faults.{BeginsWith}
use Rattle.segment_pairs.specs.Log.{spelled, size_of, segment_header, index_header, record_of, begins, Matches, segment_of, index_of}
use Rattle.segment_pairs.specs.Found.{Recorded, Tells, Walks}
use Rattle.segment_pairs.proofs.Reading.{length-record, begins_split, begins_short, begins_self, begins_parts}
use Rattle.segment_pairs.proofs.Pairs.{segment-push, index-push, length-segment, Chain-append, end_from-append}

pub recorded_front : (place : ℕ) (c : Chunk) (idx record_bytes front : List ℕ) → record_bytes ≡ record_of place c → front ≡ take 29 idx → record_bytes ≡ front → idx ≡ record_of place c ++ drop 29 idx
recorded_front place c idx record_bytes front is cut same = sym (take-append-drop 29 idx) ∙ ap (λ (l : List ℕ). l ++ drop 29 idx) (sym cut ∙ sym same ∙ is)

pub front_recorded : (place : ℕ) (c : Chunk) (idx record_bytes front : List ℕ) → record_bytes ≡ record_of place c → front ≡ take 29 idx → idx ≡ record_of place c ++ drop 29 idx → record_bytes ≡ front
front_recorded place c idx record_bytes front is cut split = is ∙ sym (take_at (record_of place c) (drop 29 idx) 29 (length-record place c)) ∙ ap (take 29) (sym split) ∙ sym cut

-- a chunk in front whose record stands in the index matches
pub matched_parts : (place at end : ℕ) (seg idx : List ℕ) (c : Chunk) (used : ℕ) → BeginsWith c used seg → at ≡ place → at < 2 ^ 32 → Recorded at end idx c → Matches place end seg idx c × (used ≡ size_of c)
matched_parts place at end seg idx c used begins same fits recorded =
    let parts = begins_parts c used seg begins in (
      record {
        begins_with = subst (λ (k : ℕ). BeginsWith c k seg) parts.1 begins;
        first = recorded.0;
        fits = omega (arith, same, fits);
        recorded = recorded.1 ∙ ap (λ (k : ℕ). record_of k c ++ drop 29 idx) same;
      },
      parts.1,
    )

-- a header in front
pub no_header_here : (header bytes : List ℕ) → length header ≡ 8 → length bytes < 8 → false ≡ begins header bytes
no_header_here header bytes len lt = sym (begins_short header bytes (omega (arith, len, lt)))

header_begins : (header bytes front : List ℕ) → length header ≡ 8 → front ≡ take 8 bytes → header ≡ front → begins header bytes ≡ true
header_begins header bytes front len cut same =
    let split : bytes ≡ header ++ drop 8 bytes = sym (take-append-drop 8 bytes) ∙ ap (λ (l : List ℕ). l ++ drop 8 bytes) (sym cut ∙ sym same) in
    ap (λ (l : List ℕ). begins header l) split ∙ begins_self header (drop 8 bytes)

begins_header : (header bytes front : List ℕ) → length header ≡ 8 → front ≡ take 8 bytes → begins header bytes ≡ true → header ≡ front
begins_header header bytes front len cut is = sym (take_at header (drop (length header) bytes) 8 len) ∙ ap (take 8) (sym (begins_split header bytes is)) ∙ sym cut

pub header_here : (b : Bool) (header bytes front : List ℕ) → length header ≡ 8 → front ≡ take 8 bytes → (IsTrue b ↔ (header ≡ front)) → b ≡ begins header bytes
header_here true header bytes front len cut told = sym (header_begins header bytes front len cut (told.0 refl))
header_here false header bytes front len cut told = elim (cases_Bool (begins header bytes)) [
  | inl is ↦ let no_ : false ≡ true = told.1 (begins_header header bytes front len cut is) in absurd (cc no_)
  | inr none ↦ sym none
]

-- reading begins behind both headers
pub walk_start : (n : ℕ) (seg idx rest index_rest : List ℕ) (chunks : List Chunk) → begins segment_header seg ≡ true → begins index_header idx ≡ true → rest ≡ drop 8 seg → index_rest ≡ drop 8 idx → chunks ≡ [] → Walks n seg idx 8 8 n chunks rest index_rest
unfolding segment_of index_of
walk_start n seg idx rest index_rest chunks segment index is_rest is_index_rest none =
    let walks : Walks n seg idx 8 8 n [] rest index_rest =
    record {
      segment = begins_split segment_header seg segment ∙ ap (λ (l : List ℕ). segment_header ++ l) (sym is_rest);
      index = begins_split index_header idx index ∙ ap (λ (l : List ℕ). index_header ++ l) (sym is_index_rest);
      chain = tt;
      ends = refl;
      index_ends = refl;
      end_is = refl;
    } in
    subst (λ (l : List Chunk). Walks n seg idx 8 8 n l rest index_rest) (sym none) walks

-- and goes on with a record that matches
pub walk_more : (n : ℕ) (seg idx : List ℕ) (place index_place end : ℕ) (chunks more : List Chunk) (c : Chunk) (rest index_rest next index_next : List ℕ) (used place_then index_then end_then : ℕ) → Walks n seg idx place index_place end chunks rest index_rest
    → Matches place end rest index_rest c → used ≡ size_of c → more ≡ chunks ++ c ∷ [] → next ≡ drop used rest → index_next ≡ drop 29 index_rest → place_then ≡ place + used → index_then ≡ index_place + 29 → end_then ≡ end_of_chunk c
    → Walks n seg idx place_then index_then end_then more next index_next
walk_more n seg idx place index_place end chunks more c rest index_rest next index_next used place_then index_then end_then w m used_is more_is next_is index_next_is place_is index_is end_is =
    let is = begins_parts c (size_of c) rest m.begins_with in
    let seg_split : seg ≡ segment_of (chunks ++ c ∷ []) ++ next =
    w.segment
    ∙ ap (λ (l : List ℕ). segment_of chunks ++ l) (is.2 ∙ ap (λ (l : List ℕ). spelled c ++ l) (ap (λ (k : ℕ). drop k rest) (sym used_is) ∙ sym next_is))
    ∙ sym (append_assoc (segment_of chunks) (spelled c) next)
    ∙ ap (λ (l : List ℕ). l ++ next) (sym (segment-push chunks c)) in
    let idx_split : idx ≡ index_of (chunks ++ c ∷ []) ++ index_next =
    w.index
    ∙ ap (λ (l : List ℕ). index_of chunks ++ l) (m.recorded ∙ (λ i. record_of (w.ends i) c ++ sym index_next_is i))
    ∙ sym (append_assoc (index_of chunks) (record_of (length (segment_of chunks)) c) index_next)
    ∙ ap (λ (l : List ℕ). l ++ index_next) (sym (index-push chunks c)) in
    let walks : Walks n seg idx place_then index_then end_then (chunks ++ c ∷ []) next index_next =
    record {
      segment = seg_split;
      index = idx_split;
      chain = Chain-append 8 n chunks (c ∷ []) w.chain (omega (arith, m.fits, w.ends, length-segment chunks), m.first ∙ w.end_is, is.0, tt);
      ends = omega (arith, place_is, used_is, w.ends, ap length (segment-push chunks c), length-append (segment_of chunks) (spelled c));
      index_ends = omega (arith, index_is, w.index_ends, ap length (index-push chunks c), length-append (index_of chunks) (record_of (length (segment_of chunks)) c), length-record (length (segment_of chunks)) c);
      end_is = end_is ∙ sym (end_from-append n chunks (c ∷ []));
    } in
    subst (λ (l : List Chunk). Walks n seg idx place_then index_then end_then l next index_next) (sym more_is) walks

pub tells_some : (place end : ℕ) (seg idx : List ℕ) (o : Option ReadStored) (read : ReadStored) → o ≡ Some read → Tells place end seg idx o → Matches place end seg idx read.stored × (read.used ≡ size_of read.stored)
tells_some place end seg idx o read is told = subst (λ (x : Option ReadStored). Tells place end seg idx x) is told

pub match_long : (place end : ℕ) (seg idx : List ℕ) (c : Chunk) → Matches place end seg idx c → 29 ≤ length idx
match_long place end seg idx c m = omega (arith, ap length m.recorded, length-append (record_of place c) (drop 29 idx), length-record place c)

pub match_fits : (place end : ℕ) (seg idx : List ℕ) (c : Chunk) (used : ℕ) → Matches place end seg idx c → used ≡ size_of c → used ≤ length seg
match_fits place end seg idx c used m is = omega (arith, is, m.begins_with.0)

pub header_long : (header bytes : List ℕ) → begins header bytes ≡ true → length header ≤ length bytes
header_long header bytes is = omega (arith, ap length (begins_split header bytes is), length-append header (drop (length header) bytes))

-- what was added where adding did not fail
pub pushed : {A E : Type 0} (result : Result A E) (old new : List Chunk) (c : Chunk) → ((e : E) → result ≡ Err e → ⊥) → OnOk result (new ≡ old ++ c ∷ []) → new ≡ old ++ c ∷ []
pushed (Ok a) old new c never ok = ok
pushed (Err e) old new c never ok = absurd (never e refl)
