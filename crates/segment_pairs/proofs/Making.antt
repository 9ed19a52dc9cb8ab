-- What the calls that make and remove files leave of them.
use Rattle.std.proofs.Common.{◌≡◌, ◌⊎◌, inl, inr, ℕ, ◌≤◌, [], ◌∷◌, length, Some, None, refl, sym, ap, subst, arith, List, ◌++◌}
use Rattle.disk_calls.specs.Disk.{DiskState, Image, bytes_of, Settled, Only, Elsewhere, Changes, RemovedFile}
use Rattle.disk_calls.specs.Frames.{EachImage, AtMost}
use Rattle.chunk_format.specs.declared.chunk.Chunk.{Chunk}
use Rattle.chunk_format.specs.Chunks.{IsChunk}
use Rattle.segment_pairs.specs.Log.{Finder, segment_header, index_header, pair_log, segment_of, index_of}
use Rattle.segment_pairs.specs.Held.{segment_file, index_file, Stands, Missing, OldOrNew, EachPair, GoneOrBefore}
use Rattle.segment_pairs.proofs.Pairs.{pair_new, pair_short}
use Rattle.segment_pairs.proofs.Moving.{apart, apart_back, settled_stays, settled_is}

-- an index that is missing or short has no records
pub none_log : (F : Finder) (n : ℕ) (a b : Image) → length (bytes_of b) ≤ 8 → pair_log F n (bytes_of a, bytes_of b) ≡ []
none_log F n a b le = pair_short F n (bytes_of a) (bytes_of b) le

pub none_short : (b : Image) → b ≡ None → length (bytes_of b) ≤ 8
none_short b is = let none : length (bytes_of b) ≡ 0 = ap (λ (f : Image). length (bytes_of f)) is in omega (arith, none)

-- while the segment is made
pub first_goes : (stream n : ℕ) (chunk : Chunk) (s t : DiskState) → Missing stream n s → Elsewhere (segment_file stream n) s t → EachPair stream n (OldOrNew [] chunk) t
first_goes stream n chunk s t missing stays F a b left_a left_b =
    let index : b ≡ None = missing.index b (stays.images (index_file stream n) (apart_back stream n n) b left_b) in
    inl (none_log F n a b (none_short b index))

-- a missing index has no image of more bytes
pub index_at_most : (stream n most : ℕ) (s t : DiskState) → Missing stream n s → Elsewhere (segment_file stream n) s t → EachImage (index_file stream n) (AtMost most) t
index_at_most stream n most s t missing stays c left =
    let none : length (bytes_of c) ≡ 0 = ap (λ (f : Image). length (bytes_of f)) (missing.index c (stays.images (index_file stream n) (apart_back stream n n) c left)) in
    omega (arith, none)

-- while the index is made
pub second_goes : (stream n : ℕ) (chunk : Chunk) (t u : DiskState) → chunk.first ≡ n → IsChunk chunk → Settled (segment_file stream n) (segment_of (chunk ∷ [])) t → EachImage (index_file stream n) (AtMost 37) u
    → Elsewhere (index_file stream n) t u → EachPair stream n (OldOrNew [] chunk) u
second_goes stream n chunk t u first is now short stays F a b left_a left_b =
    let seg : a ≡ Some (segment_of (chunk ∷ [])) = now.only a (stays.images (segment_file stream n) (apart stream n n) a left_a) in
    subst (OldOrNew [] chunk) (λ i. pair_log F n (bytes_of (sym seg i), bytes_of b)) (pair_new F n chunk (bytes_of b) first is (short b left_b))

pub both_made : (stream n : ℕ) (chunk : Chunk) (t u : DiskState) → chunk.first ≡ n → IsChunk chunk → Settled (segment_file stream n) (segment_of (chunk ∷ [])) t → Settled (index_file stream n) (index_of (chunk ∷ [])) u → Elsewhere (index_file stream n) t u
    → Stands stream (record { number = n; chunks = chunk ∷ [] }) u
both_made stream n chunk t u first is now index stays = record {
  segment = settled_stays (index_file stream n) (segment_file stream n) (segment_of (chunk ∷ [])) t u (apart stream n n) stays now;
  index = index;
  chain = (omega arith, first, is, tt);
}

-- a file that is missing, or has no bytes
pub no_bytes : (c : Image) → c ≡ None → length (bytes_of c) ≡ 0
no_bytes c is = ap (λ (f : Image). length (bytes_of f)) is

pub removed_from : (d c : Image) → RemovedFile d c → (c ≡ None) ⊎ (d ≡ c)
removed_from d None gone = inl refl
removed_from d (Some new) gone = inr gone

pub both_gone : (stream n : ℕ) (t u : DiskState) → Only None (t.images (index_file stream n)) → Elsewhere (segment_file stream n) t u → u.seen (segment_file stream n) ≡ None → Missing stream n u
both_gone stream n t u none stays gone = record { segment = gone; index = λ c left. none c (stays.images (index_file stream n) (apart_back stream n n) c left) }

-- while the index is removed
pub index_goes_away : (stream n : ℕ) (s t : DiskState) → Changes (index_file stream n) RemovedFile s t → GoneOrBefore stream n s t
index_goes_away stream n s t changes a b left_a left_b =
    let from = changes.own b left_b in
    elim (removed_from from.0 b from.2) [
      | inl gone ↦ inl gone
      | inr same ↦ inr (changes.others.images (segment_file stream n) (apart stream n n) a left_a, subst (s.images (index_file stream n)) same from.1)
    ]

-- once it is gone
pub segment_goes_away : (stream n : ℕ) (s t u : DiskState) → Only None (t.images (index_file stream n)) → Elsewhere (segment_file stream n) t u → GoneOrBefore stream n s u
segment_goes_away stream n s t u none stays a b left_a left_b = inl (none b (stays.images (index_file stream n) (apart_back stream n n) b left_b))

-- an index of at most a header has no log
pub no_log : (stream n : ℕ) (s : DiskState) → EachImage (index_file stream n) (AtMost 8) s → EachPair stream n (λ l. l ≡ []) s
no_log stream n s short F a b left_a left_b = none_log F n a b (short b left_b)

pub both_begun : (stream : ℕ) (seg idx : List ℕ) (t u : DiskState) → seg ≡ segment_header → idx ≡ index_header → Settled (segment_file stream 0) seg t → Settled (index_file stream 0) idx u → Elsewhere (index_file stream 0) t u → Stands stream (record { number = 0; chunks = [] }) u
unfolding segment_of index_of
both_begun stream seg idx t u is_seg is_idx now index stays = record {
  segment = settled_stays (index_file stream 0) (segment_file stream 0) (segment_header ++ []) t u (apart stream 0 0) stays (settled_is (segment_file stream 0) seg segment_header t is_seg now);
  index = settled_is (index_file stream 0) idx index_header u is_idx index;
  chain = tt;
}
