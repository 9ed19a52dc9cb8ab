-- Bytes that pass all checks begin with a chunk.
use Rattle.std.proofs.Common.{◌≡◌, ℕ, ◌+◌, ◌-◌, ◌≤◌, List, ◌++◌, length, take, drop, refl, sym, ap, subst, ◌∙◌, append_assoc, arith, inr}
use Rattle.std.specs.List.{All}
use Rattle.std.proofs.Math.Seq.{take-add}
use Rattle.std.proofs.lemmas.List.{take_at, length-take-le, length-drop}
use Rattle.chunk_format.specs.declared.entry.Entry.{Entry}
use Rattle.chunk_format.specs.declared.chunk.ChunkKind.{ChunkKind}
use Rattle.chunk_format.specs.declared.chunk.ChunkKind.TheVariants.{User, Delta, Snapshot}
use Rattle.chunk_format.specs.declared.chunk.Header.{Header}
use Rattle.chunk_format.specs.declared.chunk.Chunk.{Chunk}
use Rattle.chunk_format.specs.declared.fault.ChunkFault.{ChunkFault}
use Rattle.chunk_crc.specs.Crc.{crc_of}
use Rattle.chunk_format.specs.Chunks.{entries_bytes, header_bytes, header_of, chunk_bytes, HoldsByKind, IsChunk}
use Rattle.chunk_format.specs.Faults.{HeaderStands, whole_len, payload_of, trailer_of, IsChunkEntry, TrailerRight, TrackingRight, PartsRight, PartsWrong, ChunkWrong, HeadsChunk}
use Rattle.chunk_format.proofs.ChunkLaws.{header_length}
use Rattle.chunk_format.proofs.HeaderLaws.{same_header}

holds : (kind : ChunkKind) (n : ℕ) (entries : List Entry) (trailer : List ℕ) → length entries ≡ n → TrailerRight kind n trailer → TrackingRight kind entries → HoldsByKind kind entries trailer
holds User n entries trailer count right tracking = subst (λ (m : ℕ). TrailerRight User m trailer) (sym count) right
holds Delta n entries trailer count right tracking = (right, (tracking.0, tracking.2.0, tracking.1, tracking.2.1))
holds Snapshot n entries trailer count right tracking = (right, (tracking.0, tracking.2.0, tracking.1, tracking.2.1))

-- the chunk of a header, entries and a trailer
abbrev pub chunk_with : Header → List Entry → List ℕ → Chunk
chunk_with h entries trailer = record { kind = h.kind; stamp = h.stamp; epoch = h.epoch; first = h.first; entries = entries; trailer = trailer }

heads : (h : Header) (payload trailer : List ℕ) (entries : List Entry) → length payload ≡ h.payload_len → length trailer ≡ h.trailer_len → PartsRight h payload trailer entries → h ≡ header_of (chunk_with h entries trailer)
heads h payload trailer entries payload_len trailer_len right =
    let counted = right.payload_right.0 in
    let payload_is : payload ≡ entries_bytes entries = counted.are.spelled in
    same_header h (header_of (chunk_with h entries trailer)) refl (sym counted.are.whole) (sym counted.sum) refl refl refl
    (sym right.payload_right.1 ∙ ap crc_of payload_is) (sym payload_len ∙ ap length payload_is) (sym trailer_len)

is_right : (h : Header) (bytes payload trailer : List ℕ) (entries : List Entry) → HeaderStands h bytes → length payload ≡ h.payload_len → PartsRight h payload trailer entries → IsChunk (chunk_with h entries trailer)
is_right h bytes payload trailer entries stands payload_len right =
    let counted = right.payload_right.0 in
    let count : length entries ≡ h.entries = counted.are.whole in
    let each : All IsChunkEntry entries = counted.are.right.0 in
    let fits = stands.0.entries in
    record {
      stamp_fits = stands.0.stamp;
      epoch_fits = stands.0.epoch;
      some = omega (arith, counted.sized.1);
      few = omega (arith, fits);
      each = λ k d lt. (each k d lt).0;
      recorded = λ k d lt. (each k d lt).1;
      payload = omega (arith, ap length counted.are.spelled, payload_len, counted.sized.0);
      last = omega (arith, counted.sum, counted.last);
      content = holds h.kind h.entries entries trailer count right.trailer_right right.tracking_right;
    }

pub right_heads : (h : Header) (bytes payload trailer : List ℕ) (entries : List Entry) → HeaderStands h bytes → whole_len h ≤ length bytes → payload ≡ payload_of h bytes → trailer ≡ trailer_of h bytes
    → PartsRight h payload trailer entries → HeadsChunk h bytes
right_heads h bytes payload trailer entries stands long payload_is trailer_is right =
    let behind : length (drop 48 bytes) ≡ length bytes - 48 = length-drop 48 bytes in
    let payload_len : length payload ≡ h.payload_len = ap length payload_is ∙ length-take-le h.payload_len (drop 48 bytes) (omega (arith, long, behind)) in
    let trailer_len : length trailer ≡ h.trailer_len = ap length trailer_is ∙ length-take-le h.trailer_len (drop (48 + h.payload_len) bytes) (omega (arith, long, length-drop (48 + h.payload_len) bytes)) in
    let c = chunk_with h entries trailer in
    let head : h ≡ header_of c = heads h payload trailer entries payload_len trailer_len right in
    let front : take 48 bytes ≡ header_bytes h = ap (take 48) stands.1 ∙ take_at (header_bytes h) (drop 48 bytes) 48 (header_length h) in
    let middle : take (48 + h.payload_len) bytes ≡ header_bytes h ++ payload =
    take-add 48 h.payload_len bytes ∙ ap (λ (l : List ℕ). l ++ payload_of h bytes) front ∙ ap (λ (l : List ℕ). header_bytes h ++ l) (sym payload_is) in
    let all : take (whole_len h) bytes ≡ (header_bytes h ++ payload) ++ trailer =
    take-add (48 + h.payload_len) h.trailer_len bytes ∙ ap (λ (l : List ℕ). l ++ trailer_of h bytes) middle ∙ ap (λ (l : List ℕ). (header_bytes h ++ payload) ++ l) (sym trailer_is) in
    let payload_bytes : payload ≡ entries_bytes entries = right.payload_right.0.are.spelled in
    let spelled : take (whole_len h) bytes ≡ chunk_bytes c =
    all ∙ append_assoc (header_bytes h) payload trailer ∙ ap (λ (l : List ℕ). header_bytes h ++ (l ++ trailer)) payload_bytes
    ∙ ap (λ (g : Header). header_bytes g ++ (entries_bytes entries ++ trailer)) head in
    (c, (long, record { is_chunk = is_right h bytes payload trailer entries stands payload_len right; spelled = spelled }), head)

pub parts_wrong : (h : Header) (bytes payload trailer : List ℕ) (fault : ChunkFault) → HeaderStands h bytes → whole_len h ≤ length bytes → payload ≡ payload_of h bytes → trailer ≡ trailer_of h bytes
    → PartsWrong h payload trailer fault → ChunkWrong bytes fault
parts_wrong h bytes payload trailer fault stands long payload_is trailer_is wrong =
    let here : PartsWrong h (payload_of h bytes) (trailer_of h bytes) fault =
    subst (λ (l : List ℕ). PartsWrong h l (trailer_of h bytes) fault) payload_is (subst (λ (l : List ℕ). PartsWrong h payload l fault) trailer_is wrong) in
    inr (h, stands, inr (long, here))
