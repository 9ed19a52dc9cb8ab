-- What the calls of a disk leave of a segment and its index.
use Rattle.std.proofs.Common.{◌≡◌, ◌≢◌, inl, ℕ, zero, suc, ◌+◌, ◌*◌, ◌-◌, ◌≤◌, ◌<◌, ◌^◌, List, [], ◌∷◌, ◌++◌, length, take, drop, Some, refl, sym, ◌∙◌, ap, subst, arith, append_assoc, length-append}
use Rattle.std.proofs.lemmas.List.{append-nil, take_at, length-take}
use Rattle.std.proofs.Math.Seq.{take-append-add}
use Rattle.disk_calls.specs.declared.file_id.FileId.{FileId}
use Rattle.disk_calls.specs.declared.file_id.FileName.TheVariants as name
use Rattle.disk_calls.specs.declared.disk.DiskDid.{DiskDid}
use Rattle.disk_calls.specs.declared.disk.DiskDid.TheVariants as did
use Rattle.disk_calls.specs.Disk.{DiskState, Image, bytes_of, Settled, Elsewhere, Longer, Shorter}
use Rattle.disk_calls.proofs.FrameLemmas as frames
use Rattle.chunk_format.specs.declared.chunk.Chunk.{Chunk}
use Rattle.segment_pairs.specs.Log.{Finder, spelled, size_of, pair_log, record_of, flat, records, segment_of, index_of}
use Rattle.segment_pairs.specs.Held.{segment_file, index_file, Stands, OldOrNew, Front, EachPair, CanWrite, CanCut}
use Rattle.segment_pairs.proofs.Pairs.{segment-push, index-push, length-index, length-segment, Chain-append, Chain-take, pair_longer, pair_one, pair_cut}

pub did_done : (d : DiskDid) → d ≢ did.Failed → d ≡ did.Done
did_done did.Done ne = refl
did_done did.Failed ne = absurd (ne refl)

pub apart : (stream n m : ℕ) → segment_file stream n ≢ index_file stream m
apart stream n m e = let f : name.Segment n ≡ name.Index m = ap (λ (x : FileId). x.file) e in absurd (cc f)

pub apart_back : (stream n m : ℕ) → index_file stream n ≢ segment_file stream m
apart_back stream n m e = let f : name.Index n ≡ name.Segment m = ap (λ (x : FileId). x.file) e in absurd (cc f)

pub settled_stays : (id f : FileId) (bytes : List ℕ) (s t : DiskState) → f ≢ id → Elsewhere id s t → Settled f bytes s → Settled f bytes t
settled_stays id f bytes s t ne stays settled = frames.settled_stays f bytes s t (frames.elsewhere_stay f id s t ne stays) settled

pub settled_is : (id : FileId) (a b : List ℕ) (s : DiskState) → a ≡ b → Settled id a s → Settled id b s
settled_is id a b s is settled = subst (λ (l : List ℕ). Settled id l s) is settled

-- the log of two images that are known
pub known : (F : Finder) (n : ℕ) (P : List Chunk → Type 0) (a b : Image) (seg idx : List ℕ) → a ≡ Some seg → b ≡ Some idx → P (pair_log F n (seg, idx)) → P (pair_log F n (bytes_of a, bytes_of b))
known F n P a b seg idx is_a is_b p = subst P (λ i. pair_log F n (bytes_of (sym is_a i), bytes_of (sym is_b i))) p

-- while the chunk goes into the segment
pub chunk_goes : (stream n : ℕ) (cs : List Chunk) (chunk : Chunk) (place index_place k : ℕ) (s t : DiskState) → CanWrite stream n cs chunk place index_place s
    → ((c : Image) → t.images (segment_file stream n) c → Longer (segment_of cs) k c) → Elsewhere (segment_file stream n) s t → EachPair stream n (OldOrNew cs chunk) t
chunk_goes stream n cs chunk place index_place k s t can longer stays F a b left_a left_b =
    let grown = longer a left_a in
    let index : b ≡ Some (index_of cs) = can.stands.index.only b (stays.images (index_file stream n) (apart_back stream n n) b left_b) in
    known F n (OldOrNew cs chunk) a b (segment_of cs ++ grown.0) (index_of cs) grown.1 index (inl (pair_longer F n cs grown.0 can.stands.chain))

-- the segment once the chunk is in it
pub chunk_in : (stream n : ℕ) (cs : List Chunk) (chunk : Chunk) (bytes : List ℕ) (t : DiskState) → bytes ≡ spelled chunk → Settled (segment_file stream n) (segment_of cs ++ bytes) t → Settled (segment_file stream n) (segment_of (cs ++ chunk ∷ [])) t
chunk_in stream n cs chunk bytes t is settled = settled_is (segment_file stream n) (segment_of cs ++ bytes) (segment_of (cs ++ chunk ∷ [])) t (ap (λ (l : List ℕ). segment_of cs ++ l) is ∙ sym (segment-push cs chunk)) settled

-- while the record goes into the index
pub record_goes : (stream n : ℕ) (cs : List Chunk) (chunk : Chunk) (place index_place k : ℕ) (s t u : DiskState) → CanWrite stream n cs chunk place index_place s → place < 2 ^ 32 → Settled (segment_file stream n) (segment_of (cs ++ chunk ∷ [])) t
    → ((c : Image) → u.images (index_file stream n) c → Longer (index_of cs) k c) → k ≤ 29 → Elsewhere (index_file stream n) t u → EachPair stream n (OldOrNew cs chunk) u
record_goes stream n cs chunk place index_place k s t u can small now longer le stays F a b left_a left_b =
    let grown = longer b left_b in
    let seg : a ≡ Some (segment_of (cs ++ chunk ∷ [])) = now.only a (stays.images (segment_file stream n) (apart stream n n) a left_a) in
    known F n (OldOrNew cs chunk) a b (segment_of (cs ++ chunk ∷ [])) (index_of cs ++ grown.0) seg grown.1 (pair_one F n cs chunk grown.0 can.stands.chain (omega (arith, small, can.at)) can.first can.is (omega (arith, le, grown.2)))

pub chunk_written : (stream n : ℕ) (cs : List Chunk) (chunk : Chunk) (record_bytes : List ℕ) (place index_place : ℕ) (s t u : DiskState) → CanWrite stream n cs chunk place index_place s → place < 2 ^ 32 → Settled (segment_file stream n) (segment_of (cs ++ chunk ∷ [])) t
    → record_bytes ≡ record_of place chunk → Settled (index_file stream n) (index_of cs ++ record_bytes) u → Elsewhere (index_file stream n) t u → Stands stream (record { number = n; chunks = cs ++ chunk ∷ [] }) u
chunk_written stream n cs chunk record_bytes place index_place s t u can small now is index stays =
    let all : index_of cs ++ record_bytes ≡ index_of (cs ++ chunk ∷ []) =
    ap (λ (l : List ℕ). index_of cs ++ l) is ∙ ap (λ (k : ℕ). index_of cs ++ record_of k chunk) can.at ∙ sym (index-push cs chunk) in
    record {
      segment = settled_stays (index_file stream n) (segment_file stream n) (segment_of (cs ++ chunk ∷ [])) t u (apart stream n n) stays now;
      index = settled_is (index_file stream n) (index_of cs ++ record_bytes) (index_of (cs ++ chunk ∷ [])) u all index;
      chain = Chain-append 8 n cs (chunk ∷ []) can.stands.chain (omega (arith, small, can.at, length-segment cs), can.first, can.is, tt);
    }

-- what is cut away stands behind
flat-take : (k : ℕ) (cs : List Chunk) → flat cs ≡ flat (take k cs) ++ flat (drop k cs)
flat-take zero cs = refl
flat-take (suc k) [] = refl
flat-take (suc k) (c ∷ cs) = ap (λ (l : List ℕ). spelled c ++ l) (flat-take k cs) ∙ sym (append_assoc (spelled c) (flat (take k cs)) (flat (drop k cs)))

records-take : (k place : ℕ) (cs : List Chunk) → (r : List ℕ) × (records place cs ≡ records place (take k cs) ++ r)
records-take zero place cs = (records place cs, refl)
records-take (suc k) place [] = ([], refl)
records-take (suc k) place (c ∷ cs) =
    let rest = records-take k (place + size_of c) cs in
    (rest.0, ap (λ (l : List ℕ). record_of place c ++ l) rest.1 ∙ sym (append_assoc (record_of place c) (records (place + size_of c) (take k cs)) rest.0))

pub segment-take : (k : ℕ) (cs : List Chunk) → segment_of cs ≡ segment_of (take k cs) ++ flat (drop k cs)
unfolding segment_of
segment-take k cs = ap (λ (l : List ℕ). 79 ∷ 83 ∷ 73 ∷ 76 ∷ 0 ∷ 0 ∷ 0 ∷ 1 ∷ l) (flat-take k cs)

index-take : (k : ℕ) (cs : List Chunk) → (r : List ℕ) × (index_of cs ≡ index_of (take k cs) ++ r)
unfolding index_of
index-take k cs = let rest = records-take k 8 cs in (rest.0, ap (λ (l : List ℕ). 79 ∷ 83 ∷ 73 ∷ 73 ∷ 0 ∷ 0 ∷ 0 ∷ 1 ∷ l) rest.1)

pub index_within : (stream n : ℕ) (cs : List Chunk) (left size index_size : ℕ) (s : DiskState) → CanCut stream n cs left size index_size s → index_size ≤ length (index_of cs)
index_within stream n cs left size index_size s can = let rest = index-take left cs in omega (arith, can.index_ends, ap length rest.1, length-append (index_of (take left cs)) rest.0)

pub segment_within : (stream n : ℕ) (cs : List Chunk) (left size index_size : ℕ) (s : DiskState) → CanCut stream n cs left size index_size s → size ≤ length (segment_of cs)
segment_within stream n cs left size index_size s can = omega (arith, can.ends, ap length (segment-take left cs), length-append (segment_of (take left cs)) (flat (drop left cs)))

-- while the index is cut
pub index_goes : (stream n : ℕ) (cs : List Chunk) (left size index_size : ℕ) (s t : DiskState) → CanCut stream n cs left size index_size s
    → ((c : Image) → t.images (index_file stream n) c → Shorter (index_of cs) index_size c) → Elsewhere (index_file stream n) s t → EachPair stream n (Front left cs) t
index_goes stream n cs left size index_size s t can shorter stays F a b left_a left_b =
    let cut = shorter b left_b in
    let seg : a ≡ Some (segment_of cs ++ []) = can.stands.segment.only a (stays.images (segment_file stream n) (apart stream n n) a left_a) ∙ ap (λ (l : List ℕ). Some l) (sym (append-nil (segment_of cs))) in
    let many : 8 + 29 * left ≤ cut.0 = omega (arith, cut.2, can.index_ends, length-index (take left cs), length-take left cs, can.within) in
    known F n (Front left cs) a b (segment_of cs ++ []) (take cut.0 (index_of cs)) seg cut.1 (pair_cut F n cut.0 left cs [] can.stands.chain can.within many)

pub index_cut : (stream n : ℕ) (cs : List Chunk) (left size index_size : ℕ) (s t : DiskState) → CanCut stream n cs left size index_size s → Settled (index_file stream n) (take index_size (index_of cs)) t → Settled (index_file stream n) (index_of (take left cs)) t
index_cut stream n cs left size index_size s t can settled =
    let rest = index-take left cs in
    let is : take index_size (index_of cs) ≡ index_of (take left cs) = ap (λ (l : List ℕ). take index_size l) rest.1 ∙ take_at (index_of (take left cs)) rest.0 index_size (sym can.index_ends) in
    settled_is (index_file stream n) (take index_size (index_of cs)) (index_of (take left cs)) t is settled

-- while the segment is cut
pub segment_goes : (stream n : ℕ) (cs : List Chunk) (left size index_size : ℕ) (s t u : DiskState) → CanCut stream n cs left size index_size s → Settled (index_file stream n) (take index_size (index_of cs)) t
    → ((c : Image) → u.images (segment_file stream n) c → Shorter (segment_of cs) size c) → Elsewhere (segment_file stream n) t u → EachPair stream n (Front left cs) u
segment_goes stream n cs left size index_size s t u can now shorter stays F a b left_a left_b =
    let cut = shorter a left_a in
    let more = cut.0 - length (segment_of (take left cs)) in
    let e = take more (flat (drop left cs)) in
    let split : take cut.0 (segment_of cs) ≡ segment_of (take left cs) ++ e =
    ap (λ (l : List ℕ). take cut.0 l) (segment-take left cs)
    ∙ ap (λ (k : ℕ). take k (segment_of (take left cs) ++ flat (drop left cs))) (omega (arith, cut.2, can.ends))
    ∙ take-append-add (segment_of (take left cs)) (flat (drop left cs)) more in
    let index : b ≡ Some (index_of (take left cs)) = (index_cut stream n cs left size index_size s t can now).only b (stays.images (index_file stream n) (apart_back stream n n) b left_b) in
    known F n (Front left cs) a b (segment_of (take left cs) ++ e) (index_of (take left cs)) (cut.1 ∙ ap (λ (l : List ℕ). Some l) split) index
    (record { size = left; enough = omega arith; is = pair_longer F n (take left cs) e (Chain-take left 8 n cs can.stands.chain) })

pub pair_was_cut : (stream n : ℕ) (cs : List Chunk) (left size index_size : ℕ) (s t u : DiskState) → CanCut stream n cs left size index_size s → Settled (index_file stream n) (take index_size (index_of cs)) t
    → Settled (segment_file stream n) (take size (segment_of cs)) u → Elsewhere (segment_file stream n) t u → Stands stream (record { number = n; chunks = take left cs }) u
pair_was_cut stream n cs left size index_size s t u can now settled stays =
    let is : take size (segment_of cs) ≡ segment_of (take left cs) = ap (λ (l : List ℕ). take size l) (segment-take left cs) ∙ take_at (segment_of (take left cs)) (flat (drop left cs)) size (sym can.ends) in
    record {
      segment = settled_is (segment_file stream n) (take size (segment_of cs)) (segment_of (take left cs)) u is settled;
      index = settled_stays (segment_file stream n) (index_file stream n) (index_of (take left cs)) t u (apart_back stream n n) stays (index_cut stream n cs left size index_size s t can now);
      chain = Chain-take left 8 n cs can.stands.chain;
    }
