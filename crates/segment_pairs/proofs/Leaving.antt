-- What each call leaves of a segment and its index.
use Rattle.std.proofs.Common.{◌≡◌, ◌⊎◌, inl, inr, ℕ, zero, suc, ◌+◌, ◌-◌, ◌≤◌, ◌<◌, List, [], ◌∷◌, ◌++◌, length, take, drop, Some, None, refl, sym, ◌∙◌, ap, subst, arith, append_assoc, length-append}
use Rattle.std.proofs.lemmas.List.{append-nil, length-take}
use Rattle.std.proofs.lemmas.Bool.{cases_lt}
use Rattle.std.proofs.Math.Seq.{take-append-add}
use Rattle.disk_calls.specs.Disk.{DiskState, Image, bytes_of, Settled, Only, Elsewhere, Changes, RemovedFile, Longer, Shorter}
use Rattle.disk_calls.specs.Frames.{EachImage, AtMost, FileStays}
use Rattle.chunk_format.specs.declared.chunk.Chunk.{Chunk}
use Rattle.chunk_format.specs.Logs.{end_from}
use Rattle.segment_pairs.specs.Log.{Finder, size_of, record_of, segment_header, index_header, chunks_behind, pair_log, Chain, flat, records, segment_of, index_of}
use Rattle.segment_pairs.specs.Held.{segment_file, index_file, Missing, CanWrite, CanCut, FoundTorn, Segment, Stands}
use Rattle.segment_pairs.specs.Left.{IsHeaded, IsLeft, EachLeft}
use Rattle.segment_pairs.proofs.Reading.{length-record, begins_self}
use Rattle.segment_pairs.proofs.Pairs.{length-index, segment-push, pair_front, take_header, Chain-take}
use Rattle.segment_pairs.proofs.Moving.{apart, apart_back, segment-take, index_cut}
use Rattle.segment_pairs.proofs.Making.{no_bytes, removed_from}
use Rattle.segment_pairs.proofs.Torn.{cut_behind, index_trimmed}

-- ---- one pair

segment_headed : (cs : List Chunk) (e : List ℕ) → IsHeaded segment_header (segment_of cs ++ e)
unfolding segment_of
segment_headed cs e = inr (begins_self segment_header (flat cs ++ e))

index_headed : (cs : List Chunk) (r : List ℕ) → IsHeaded index_header (index_of cs ++ r)
unfolding index_of
index_headed cs r = inr (begins_self index_header (records 8 cs ++ r))

-- chunks with their records are in the log
front_counted : (F : Finder) (n : ℕ) (cs : List Chunk) (e r : List ℕ) → Chain 8 n cs → length cs ≤ length (pair_log F n (segment_of cs ++ e, index_of cs ++ r))
front_counted F n cs e r fit =
    let rest = chunks_behind F zero (8 + length (flat cs)) (end_from n cs) e r in
    omega (arith, ap length (pair_front F n cs e r fit), length-append cs rest)

-- chunks, and behind them at most one record in the index
left_front : (n : ℕ) (cs : List Chunk) (e r : List ℕ) (a b : Image) → Chain 8 n cs → length r ≤ 29 → a ≡ Some (segment_of cs ++ e) → b ≡ Some (index_of cs ++ r) → IsLeft n a b
left_front n cs e r a b fit le is_a is_b = subst (λ (c : Image). IsLeft n c b) (sym is_a) (subst (λ (c : Image). IsLeft n (Some (segment_of cs ++ e)) c) (sym is_b) here)
  where
    here : IsLeft n (Some (segment_of cs ++ e)) (Some (index_of cs ++ r))
    here = record {
      together = λ none. absurd (cc none);
      few = λ F. omega (arith, le, length-append (index_of cs) r, length-index cs, front_counted F n cs e r fit);
      headers = λ first. (segment_headed cs e, index_headed cs r);
    }

-- the same without anything in the index
left_longer : (n : ℕ) (cs : List Chunk) (e : List ℕ) (a b : Image) → Chain 8 n cs → a ≡ Some (segment_of cs ++ e) → b ≡ Some (index_of cs) → IsLeft n a b
left_longer n cs e a b fit is_a is_b = left_front n cs e [] a b fit (omega arith) is_a (is_b ∙ ap (λ (l : List ℕ). Some l) (sym (append-nil (index_of cs))))

-- no index
left_missing : (n : ℕ) (a b : Image) → b ≡ None → (n ≡ 0 → IsHeaded segment_header (bytes_of a)) → IsLeft n a b
left_missing n a b none headed = record {
  together = λ gone. none;
  few = λ F. omega (arith, no_bytes b none);
  headers = λ first. (headed first, inl (omega (arith, no_bytes b none)));
}

-- a segment above 0 that is there, and an index of at most a header and a record
left_new : (n : ℕ) (a b : Image) (seg : List ℕ) → 0 < n → a ≡ Some seg → AtMost 37 b → IsLeft n a b
left_new n a b seg some is le = record {
  together = λ gone. let none : Some seg ≡ None = sym is ∙ gone in absurd (cc none);
  few = λ F. omega (arith, le);
  headers = λ first. absurd (omega (arith, some, first));
}

-- at most headers
left_short : (n : ℕ) (a b : Image) → (a ≡ None → b ≡ None) → AtMost 8 a → AtMost 8 b → IsLeft n a b
left_short n a b together le_a le_b = record { together = together; few = λ F. omega (arith, le_b); headers = λ first. (inl le_a, inl le_b) }

-- ---- a front of an index

-- whole records, and less than one behind them
records_cut : (k place : ℕ) (cs : List Chunk) → (m : ℕ) × (r : List ℕ) × (take k (records place cs) ≡ records place (take m cs) ++ r) × (length r ≤ 29)
records_cut zero place [] = (0, [], refl, omega arith)
records_cut (suc k) place [] = (0, [], refl, omega arith)
records_cut k place (c ∷ cs) = elim (cases_lt k 29) [
  | inl lt ↦ (0, take k (records place (c ∷ cs)), refl, omega (arith, lt, length-take k (records place (c ∷ cs))))
  | inr ge ↦
      let rest = records_cut (k - 29) (place + size_of c) cs in
      let split : take k (records place (c ∷ cs)) ≡ record_of place c ++ take (k - 29) (records (place + size_of c) cs) =
      ap (λ (n : ℕ). take n (records place (c ∷ cs))) (omega (arith, length-record place c)) ∙ take-append-add (record_of place c) (records (place + size_of c) cs) (k - 29) in
      (suc rest.0, rest.1, split ∙ ap (λ (l : List ℕ). record_of place c ++ l) rest.2 ∙ sym (append_assoc (record_of place c) (records (place + size_of c) (take rest.0 cs)) rest.1), rest.3)
]

index_cut_at : (k : ℕ) (cs : List Chunk) → 8 ≤ k → (m : ℕ) × (r : List ℕ) × (take k (index_of cs) ≡ index_of (take m cs) ++ r) × (length r ≤ 29)
unfolding index_of
index_cut_at k cs le =
    let found = records_cut (k - 8) 8 cs in
    (found.0, found.1, take_header k (records 8 cs) le ∙ ap (λ (l : List ℕ). index_header ++ l) found.2, found.3)

-- the index of a segment is cut
left_cut : (n k : ℕ) (cs : List Chunk) (a b : Image) → Chain 8 n cs → 8 ≤ k → a ≡ Some (segment_of cs) → b ≡ Some (take k (index_of cs)) → IsLeft n a b
left_cut n k cs a b fit le is_a is_b =
    let found = index_cut_at k cs le in
    left_front n (take found.0 cs) (flat (drop found.0 cs)) found.1 a b (Chain-take found.0 8 n cs fit) found.3 (is_a ∙ ap (λ (l : List ℕ). Some l) (segment-take found.0 cs)) (is_b ∙ ap (λ (l : List ℕ). Some l) found.2)

-- ---- what a chunk leaves

pub chunk_leaves : (stream n : ℕ) (cs : List Chunk) (chunk : Chunk) (place index_place k : ℕ) (s t : DiskState) → CanWrite stream n cs chunk place index_place s
    → ((c : Image) → t.images (segment_file stream n) c → Longer (segment_of cs) k c) → Elsewhere (segment_file stream n) s t → EachLeft stream n t
chunk_leaves stream n cs chunk place index_place k s t can longer stays a b left_a left_b =
    let grown = longer a left_a in
    left_longer n cs grown.0 a b can.stands.chain grown.1 (can.stands.index.only b (stays.images (index_file stream n) (apart_back stream n n) b left_b))

pub record_leaves : (stream n : ℕ) (cs : List Chunk) (chunk : Chunk) (place index_place k : ℕ) (s t u : DiskState) → CanWrite stream n cs chunk place index_place s → Settled (segment_file stream n) (segment_of (cs ++ chunk ∷ [])) t
    → ((c : Image) → u.images (index_file stream n) c → Longer (index_of cs) k c) → k ≤ 29 → Elsewhere (index_file stream n) t u → EachLeft stream n u
record_leaves stream n cs chunk place index_place k s t u can now longer le stays a b left_a left_b =
    let grown = longer b left_b in
    let seg = now.only a (stays.images (segment_file stream n) (apart stream n n) a left_a) in
    left_front n cs _ grown.0 a b can.stands.chain (omega (arith, le, grown.2)) (seg ∙ ap (λ (l : List ℕ). Some l) (segment-push cs chunk)) grown.1

-- ---- what a cut leaves

pub index_cut_leaves : (stream n : ℕ) (cs : List Chunk) (left size index_size : ℕ) (s t : DiskState) → CanCut stream n cs left size index_size s
    → ((c : Image) → t.images (index_file stream n) c → Shorter (index_of cs) index_size c) → Elsewhere (index_file stream n) s t → EachLeft stream n t
index_cut_leaves stream n cs left size index_size s t can shorter stays a b left_a left_b =
    let cut = shorter b left_b in
    left_cut n cut.0 cs a b can.stands.chain (omega (arith, cut.2, can.index_ends, length-index (take left cs))) (can.stands.segment.only a (stays.images (segment_file stream n) (apart stream n n) a left_a)) cut.1

pub segment_cut_leaves : (stream n : ℕ) (cs : List Chunk) (left size index_size : ℕ) (s t u : DiskState) → CanCut stream n cs left size index_size s → Settled (index_file stream n) (take index_size (index_of cs)) t
    → ((c : Image) → u.images (segment_file stream n) c → Shorter (segment_of cs) size c) → Elsewhere (segment_file stream n) t u → EachLeft stream n u
segment_cut_leaves stream n cs left size index_size s t u can now shorter stays a b left_a left_b =
    let cut = shorter a left_a in
    let split : take cut.0 (segment_of cs) ≡ segment_of (take left cs) ++ take (cut.0 - length (segment_of (take left cs))) (flat (drop left cs)) =
    ap (λ (l : List ℕ). take cut.0 l) (segment-take left cs) ∙ cut_behind (segment_of (take left cs)) (flat (drop left cs)) cut.0 (omega (arith, cut.2, can.ends)) in
    left_longer n (take left cs) _ a b (Chain-take left 8 n cs can.stands.chain) (cut.1 ∙ ap (λ (l : List ℕ). Some l) split) ((index_cut stream n cs left size index_size s t can now).only b (stays.images (index_file stream n) (apart_back stream n n) b left_b))

-- ---- what a cut of a torn end leaves

pub index_trim_leaves : (stream n : ℕ) (cs : List Chunk) (size index_size : ℕ) (s u : DiskState) (t : FoundTorn stream n cs size index_size s)
    → ((c : Image) → u.images (index_file stream n) c → Shorter (index_of cs ++ t.index_rest) index_size c) → Elsewhere (index_file stream n) s u → EachLeft stream n u
index_trim_leaves stream n cs size index_size s u t shorter stays a b left_a left_b =
    let cut = shorter b left_b in
    let rest = take (cut.0 - length (index_of cs)) t.index_rest in
    left_front n cs t.rest rest a b t.chain (omega (arith, t.short, length-take (cut.0 - length (index_of cs)) t.index_rest)) (t.segment.only a (stays.images (segment_file stream n) (apart stream n n) a left_a)) (cut.1 ∙ ap (λ (l : List ℕ). Some l) (cut_behind (index_of cs) t.index_rest cut.0 (omega (arith, cut.2, t.index_ends))))

pub segment_trim_leaves : (stream n : ℕ) (cs : List Chunk) (size index_size : ℕ) (s u v : DiskState) (t : FoundTorn stream n cs size index_size s) → Settled (index_file stream n) (take index_size (index_of cs ++ t.index_rest)) u
    → ((c : Image) → v.images (segment_file stream n) c → Shorter (segment_of cs ++ t.rest) size c) → Elsewhere (segment_file stream n) u v → EachLeft stream n v
segment_trim_leaves stream n cs size index_size s u v t now shorter stays a b left_a left_b =
    let cut = shorter a left_a in
    left_longer n cs (take (cut.0 - length (segment_of cs)) t.rest) a b t.chain (cut.1 ∙ ap (λ (l : List ℕ). Some l) (cut_behind (segment_of cs) t.rest cut.0 (omega (arith, cut.2, t.ends)))) ((index_trimmed stream n cs size index_size s u t now).only b (stays.images (index_file stream n) (apart_back stream n n) b left_b))

-- ---- what making files leaves

pub new_segment_leaves : (stream n : ℕ) (s t : DiskState) → 0 < n → Missing stream n s → Elsewhere (segment_file stream n) s t → EachLeft stream n t
new_segment_leaves stream n s t some missing stays a b left_a left_b =
    left_missing n a b (missing.index b (stays.images (index_file stream n) (apart_back stream n n) b left_b)) (λ first. absurd (omega (arith, some, first)))

pub new_index_leaves : (stream n : ℕ) (seg : List ℕ) (t u : DiskState) → 0 < n → Settled (segment_file stream n) seg t → EachImage (index_file stream n) (AtMost 37) u → Elsewhere (index_file stream n) t u → EachLeft stream n u
new_index_leaves stream n seg t u some now short stays a b left_a left_b =
    left_new n a b seg some (now.only a (stays.images (segment_file stream n) (apart stream n n) a left_a)) (short b left_b)

pub first_segment_leaves : (stream : ℕ) (s t : DiskState) → Missing stream 0 s → EachImage (segment_file stream 0) (AtMost 8) t → Elsewhere (segment_file stream 0) s t → EachLeft stream 0 t
first_segment_leaves stream s t missing short stays a b left_a left_b =
    left_missing 0 a b (missing.index b (stays.images (index_file stream 0) (apart_back stream 0 0) b left_b)) (λ first. inl (short a left_a))

pub first_index_leaves : (stream : ℕ) (seg : List ℕ) (t u : DiskState) → length seg ≤ 8 → Settled (segment_file stream 0) seg t → EachImage (index_file stream 0) (AtMost 8) u → Elsewhere (index_file stream 0) t u → EachLeft stream 0 u
first_index_leaves stream seg t u le now short stays a b left_a left_b =
    let is = now.only a (stays.images (segment_file stream 0) (apart stream 0 0) a left_a) in
    left_short 0 a b (λ gone. let no_ : Some seg ≡ None = sym is ∙ gone in absurd (cc no_)) (omega (arith, le, ap (λ (c : Image). length (bytes_of c)) is)) (short b left_b)

-- ---- what removing files leaves

-- a segment of before, or none, without its index
left_removed : (stream n : ℕ) (s : DiskState) (was a b : Image) → EachLeft stream n s → s.images (index_file stream n) was → (a ≡ None) ⊎ s.images (segment_file stream n) a → b ≡ None → IsLeft n a b
left_removed stream n s was a b left has (inl gone) none = left_missing n a b none (λ first. inl (omega (arith, no_bytes a gone)))
left_removed stream n s was a b left has (inr before) none = left_missing n a b none (λ first. ((left a was before has).headers first).0)

pub index_leaves : (stream n : ℕ) (s t : DiskState) → s.images (index_file stream n) (s.seen (index_file stream n)) → EachLeft stream n s → Changes (index_file stream n) RemovedFile s t → EachLeft stream n t
index_leaves stream n s t has left changes a b left_a left_b =
    let from = changes.own b left_b in
    let seg = changes.others.images (segment_file stream n) (apart stream n n) a left_a in
    elim (removed_from from.0 b from.2) [
      | inl gone ↦ left_removed stream n s (s.seen (index_file stream n)) a b left has (inr seg) gone
      | inr same ↦ left a b seg (subst (s.images (index_file stream n)) same from.1)
    ]

pub segment_leaves : (stream n : ℕ) (s t u : DiskState) → s.images (index_file stream n) (s.seen (index_file stream n)) → EachLeft stream n s → Changes (index_file stream n) RemovedFile s t → Only None (t.images (index_file stream n)) → Changes (segment_file stream n) RemovedFile t u
    → EachLeft stream n u
segment_leaves stream n s t u has left first none changes a b left_a left_b =
    let from = changes.own a left_a in
    let before : (c : Image) → t.images (segment_file stream n) c → s.images (segment_file stream n) c = first.others.images (segment_file stream n) (apart stream n n) in
    let gone : b ≡ None = none b (changes.others.images (index_file stream n) (apart_back stream n n) b left_b) in
    elim (removed_from from.0 a from.2) [
      | inl lost ↦ left_removed stream n s (s.seen (index_file stream n)) a b left has (inl lost) gone
      | inr same ↦ left_removed stream n s (s.seen (index_file stream n)) a b left has (inr (subst (s.images (segment_file stream n)) same (before from.0 from.1))) gone
    ]

-- ---- what stands

pub stands_left : (stream : ℕ) (x : Segment) (s : DiskState) → Stands stream x s → EachLeft stream x.number s
stands_left stream x s stands a b left_a left_b =
    left_longer x.number x.chunks [] a b stands.chain (stands.segment.only a left_a ∙ ap (λ (l : List ℕ). Some l) (sym (append-nil (segment_of x.chunks)))) (stands.index.only b left_b)

pub torn_left : (stream n : ℕ) (cs : List Chunk) (size index_size : ℕ) (s : DiskState) → FoundTorn stream n cs size index_size s → EachLeft stream n s
torn_left stream n cs size index_size s t a b left_a left_b = left_front n cs t.rest t.index_rest a b t.chain t.short (t.segment.only a left_a) (t.index.only b left_b)

pub missing_left : (stream n : ℕ) (s : DiskState) → 0 < n → Missing stream n s → EachLeft stream n s
missing_left stream n s some missing a b left_a left_b = left_missing n a b (missing.index b left_b) (λ first. absurd (omega (arith, some, first)))

pub left_stays : (stream n : ℕ) (s t : DiskState) → FileStays (segment_file stream n) s t → FileStays (index_file stream n) s t → EachLeft stream n s → EachLeft stream n t
left_stays stream n s t one two left a b left_a left_b = left a b (one.images a left_a) (two.images b left_b)
