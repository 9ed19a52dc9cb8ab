-- No two chunks begin the same bytes, and where a chunk begins them no check fails.
use Rattle.std.proofs.Common.{◌≡◌, ℕ, ℤ, ◌+◌, ◌%◌, ◌^◌, ◌<◌, ◌≤◌, List, [], ◌∷◌, ◌++◌, length, get_or, take, drop, w64, refl, sym, ap, subst, ◌∙◌, append_assoc, arith, length-append, inl, inr}
use Rattle.std.specs.Int.RustNames.{FitsSigned}
use Rattle.std.specs.List.{All}
use Rattle.std.proofs.lemmas.List.{take_at, drop_at, drop-drop}
use Rattle.std.proofs.lemmas.List.Sums.{sum_by-le}
use Rattle.frame_wire.specs.Fields.{u8_bytes, u32_bytes, u64_bytes}
use Rattle.frame_wire.proofs.FieldLaws.{same_front, u32_length, u64_length, u8_same, u16_same, u32_same, u64_same}
use Rattle.frame_wire.proofs.Steps.{IsBytes-drop, IsBytes-take}
use Rattle.chunk_format.specs.declared.entry.Entry.{Entry}
use Rattle.chunk_format.specs.declared.entry.Entry.TheVariants.{Simple, Batch}
use Rattle.chunk_format.specs.declared.chunk.ChunkKind.{ChunkKind}
use Rattle.chunk_format.specs.declared.chunk.ChunkKind.TheVariants.{User, Delta, Snapshot}
use Rattle.chunk_format.specs.declared.chunk.Header.{Header}
use Rattle.chunk_format.specs.declared.chunk.Chunk.{Chunk}
use Rattle.chunk_format.specs.declared.fault.ChunkFault.{ChunkFault}
use Rattle.chunk_format.specs.declared.fault.ChunkFault.TheVariants.{Short, Magic, Version, Kind, Reserved, Count, Crc, Trailer, Tracking}
use Rattle.chunk_crc.specs.Crc.{crc_of}
use Rattle.chunk_format.specs.Tags as tags
use Rattle.chunk_format.specs.Chunks.{kind_code, head_bytes, header_bytes, header_of, entry_bytes, entry_records, IsEntry, entries_bytes, records_of, chunk_bytes, IsOneSimple, HoldsByKind, IsChunk}
use Rattle.chunk_format.specs.Faults.{HeaderStands, HeaderWrong, whole_len, payload_of, trailer_of, IsChunkEntry, AreEntries, SpellsEntries, CountWrong, LongPayload, NoEntries, EntryWrong, SumWrong, LastWrong, TrailerWrong, TrackingWrong, PartsWrong, BodyWrong, ChunkWrong}
use Rattle.chunk_format.proofs.ItemLaws.{one_list, not_wrong, same_items}
use Rattle.chunk_format.proofs.Codes.{entry_code}
use Rattle.chunk_format.proofs.Gone.{limited_closed, delta_not_wrong, snapshot_not_wrong, tags_not_wrong}
use Rattle.chunk_format.proofs.TagLaws.{trailer_fits}
use Rattle.chunk_format.proofs.EntryLaws.{chunk_entry_code}
use Rattle.chunk_format.proofs.ChunkLaws.{kind_same, kind_low, kind_small, first_fits, header_length, chunk_length, part_at, head_length}
use Rattle.chunk_format.proofs.HeaderLaws.{i64_same, lengths_then, offsets_then, fields_then, fields_are, same_header}
use Rattle.chunk_crc.proofs.CrcBound.{crc_fits}

-- ---- headers, but for the checksum

record Fits (h : Header) : Type 0 where
  entries : h.entries < 2 ^ 16
  records : h.records < 2 ^ 32
  stamp : FitsSigned w64 h.stamp
  epoch : h.epoch < 2 ^ 64
  first : h.first < 2 ^ 64
  payload_len : h.payload_len < 2 ^ 32
  trailer_len : h.trailer_len < 2 ^ 32

record SameHeads (h g : Header) (a b : List ℕ) : Type 0 where
  kind : h.kind ≡ g.kind
  entries : h.entries ≡ g.entries
  records : h.records ≡ g.records
  stamp : h.stamp ≡ g.stamp
  epoch : h.epoch ≡ g.epoch
  first : h.first ≡ g.first
  crc : u32_bytes h.crc ≡ u32_bytes g.crc
  payload_len : h.payload_len ≡ g.payload_len
  trailer_len : h.trailer_len ≡ g.trailer_len
  rest : a ≡ b

same_heads : (h g : Header) (a b : List ℕ) → Fits h → Fits g → header_bytes h ++ a ≡ header_bytes g ++ b → SameHeads h g a b
unfolding fields_then offsets_then lengths_then
same_heads h g a b p q e =
    let s0 = u8_same 0x50 0x50 _ _ (omega arith) (omega arith) (sym (fields_are h a) ∙ e ∙ fields_are g b) in
    let s1 = u8_same (kind_code h.kind) (kind_code g.kind) _ _ (kind_small h.kind) (kind_small g.kind) s0.1 in
    let s2 = u16_same h.entries g.entries _ _ p.entries q.entries s1.1 in
    let s3 = u32_same h.records g.records _ _ p.records q.records s2.1 in
    let s4 = i64_same h.stamp g.stamp _ _ p.stamp q.stamp s3.1 in
    let s5 = u64_same h.epoch g.epoch _ _ p.epoch q.epoch s4.1 in
    let s6 = u64_same h.first g.first _ _ p.first q.first s5.1 in
    let s7 = same_front (u32_bytes h.crc) (u32_bytes g.crc) _ _ (u32_length h.crc ∙ sym (u32_length g.crc)) s6.1 in
    let s8 = u32_same h.payload_len g.payload_len _ _ p.payload_len q.payload_len s7.1 in
    let s9 = u32_same h.trailer_len g.trailer_len _ _ p.trailer_len q.trailer_len s8.1 in
    let s10 = u32_same 0 0 a b (omega arith) (omega arith) s9.1 in
    record {
      kind = kind_same h.kind g.kind s1.0;
      entries = s2.0;
      records = s3.0;
      stamp = s4.0;
      epoch = s5.0;
      first = s6.0;
      crc = s7.0;
      payload_len = s8.0;
      trailer_len = s9.0;
      rest = s10.1;
    }

few_records : (x : Entry) → IsEntry x → entry_records x ≤ 65535
few_records (Simple body) f = omega arith
few_records (Batch c s r u body) f = let r_fits = f.2 in omega arith

records_fit : (entries : List Entry) → length entries < 2 ^ 16 → All IsEntry entries → records_of entries < 2 ^ 32
records_fit entries few each =
    let most : All (λ (x : Entry). entry_records x ≤ 65535) entries = λ k d lt. few_records _ (each k d lt) in
    omega (arith, sum_by-le entry_records 65535 entries most)

chunk_fits : (c : Chunk) → IsChunk c → Fits (header_of c)
chunk_fits c is = record {
  entries = is.few;
  records = records_fit c.entries is.few is.each;
  stamp = is.stamp_fits;
  epoch = is.epoch_fits;
  first = first_fits c is;
  payload_len = let payload = is.payload in omega arith;
  trailer_len = trailer_fits c is;
}

-- ---- two chunks

chunk_of : ChunkKind → ℤ → ℕ → ℕ → List Entry → List ℕ → Chunk
chunk_of kind stamp epoch first entries trailer = record { kind = kind; stamp = stamp; epoch = epoch; first = first; entries = entries; trailer = trailer }

chunk_of_is : (c : Chunk) → chunk_of c.kind c.stamp c.epoch c.first c.entries c.trailer ≡ c
unfolding chunk_of
chunk_of_is c = refl

chunk_then : (c : Chunk) (a : List ℕ) → chunk_bytes c ++ a ≡ header_bytes (header_of c) ++ (entries_bytes c.entries ++ (c.trailer ++ a))
chunk_then c a = append_assoc (header_bytes (header_of c)) (entries_bytes c.entries ++ c.trailer) a ∙ ap (λ (l : List ℕ). header_bytes (header_of c) ++ l) (append_assoc (entries_bytes c.entries) c.trailer a)

pub one_chunk : (c d : Chunk) (a b : List ℕ) → IsChunk c → IsChunk d → chunk_bytes c ++ a ≡ chunk_bytes d ++ b → (c ≡ d) × (a ≡ b)
one_chunk c d a b p q e =
    let s = same_heads (header_of c) (header_of d) (entries_bytes c.entries ++ (c.trailer ++ a)) (entries_bytes d.entries ++ (d.trailer ++ b)) (chunk_fits c p) (chunk_fits d q) (sym (chunk_then c a) ∙ e ∙ chunk_then d b) in
    let payload = same_front (entries_bytes c.entries) (entries_bytes d.entries) (c.trailer ++ a) (d.trailer ++ b) s.payload_len s.rest in
    let trailer = same_front c.trailer d.trailer a b s.trailer_len payload.1 in
    let entries : c.entries ≡ d.entries = one_list entry_bytes IsEntry entry_code c.entries d.entries p.each q.each payload.0 in
    let kind : c.kind ≡ d.kind = s.kind in
    let stamp : c.stamp ≡ d.stamp = s.stamp in
    let epoch : c.epoch ≡ d.epoch = s.epoch in
    let first : c.first ≡ d.first = s.first in
    let trailers : c.trailer ≡ d.trailer = trailer.0 in
    let all : chunk_of c.kind c.stamp c.epoch c.first c.entries c.trailer ≡ chunk_of d.kind d.stamp d.epoch d.first d.entries d.trailer = cc in
    (sym (chunk_of_is c) ∙ all ∙ chunk_of_is d, trailer.1)

-- two chunks never share a spelling
pub same_chunk : (c d : Chunk) → IsChunk c → IsChunk d → chunk_bytes c ≡ chunk_bytes d → c ≡ d
same_chunk c d p q e = (one_chunk c d [] [] p q (ap (λ (l : List ℕ). l ++ []) e)).0

-- ---- no check of a header fails

first_is : (h : Header) (rest bytes : List ℕ) → bytes ≡ header_bytes h ++ rest → (get_or bytes 0 0 ≡ 0x50) × (get_or bytes 1 0 ≡ kind_code h.kind % 256)
unfolding u8_bytes fields_then
first_is h rest bytes e =
    let flat = e ∙ fields_are h rest in
    (ap (λ (l : List ℕ). get_or l 0 0) flat, ap (λ (l : List ℕ). get_or l 1 0) flat)

reserved_is : (h : Header) (rest bytes : List ℕ) → bytes ≡ header_bytes h ++ rest → take 4 (drop 44 bytes) ≡ u32_bytes 0
unfolding header_bytes
reserved_is h rest bytes e =
    let lengths = u32_bytes h.crc ++ (u32_bytes h.payload_len ++ u32_bytes h.trailer_len) in
    let front = head_bytes h ++ (u64_bytes h.epoch ++ (u64_bytes h.first ++ lengths)) in
    let regroup : header_bytes h ++ rest ≡ front ++ (u32_bytes 0 ++ rest) = simp append_assoc in
    let a = length-append (head_bytes h) (u64_bytes h.epoch ++ (u64_bytes h.first ++ lengths)) in
    let b = length-append (u64_bytes h.epoch) (u64_bytes h.first ++ lengths) in
    let c = length-append (u64_bytes h.first) lengths in
    let d = length-append (u32_bytes h.crc) (u32_bytes h.payload_len ++ u32_bytes h.trailer_len) in
    let f = length-append (u32_bytes h.payload_len) (u32_bytes h.trailer_len) in
    let len : length front ≡ 44 = omega (arith, a, b, c, d, f, head_length h, u64_length h.epoch, u64_length h.first, u32_length h.crc, u32_length h.payload_len, u32_length h.trailer_len) in
    ap (λ (l : List ℕ). take 4 (drop 44 l)) (e ∙ regroup) ∙ part_at front (u32_bytes 0) rest 44 4 len (u32_length 0)

whole_header : (h : Header) (rest bytes : List ℕ) → bytes ≡ header_bytes h ++ rest → 48 ≤ length bytes
whole_header h rest bytes e = omega (arith, ap length e, length-append (header_bytes h) rest, header_length h)

pub header_not_wrong : (fault : ChunkFault) (h : Header) (rest bytes : List ℕ) → bytes ≡ header_bytes h ++ rest → HeaderWrong bytes fault → ⊥
header_not_wrong (Short place) h rest bytes e wrong = omega (arith, whole_header h rest bytes e, wrong.0)
header_not_wrong (Magic place) h rest bytes e wrong = let first = (first_is h rest bytes e).0 in wrong.1 (omega arith)
header_not_wrong (Version place) h rest bytes e wrong = let first = (first_is h rest bytes e).0 in wrong.2 (omega arith)
header_not_wrong (Kind place) h rest bytes e wrong = let second = (first_is h rest bytes e).1 in omega (arith, wrong.2, kind_low h.kind)
header_not_wrong (Reserved place) h rest bytes e wrong = wrong.1 (reserved_is h rest bytes e)
header_not_wrong (Count place) h rest bytes e wrong = wrong
header_not_wrong (Crc place stored computed) h rest bytes e wrong = wrong
header_not_wrong (Trailer place) h rest bytes e wrong = wrong
header_not_wrong (Tracking place) h rest bytes e wrong = wrong

-- ---- no check of what follows fails

pub chunk_entries : (c : Chunk) → IsChunk c → SpellsEntries (length c.entries) (entries_bytes c.entries) c.entries
chunk_entries c is = record { right = (λ k d lt. (is.each k d lt, is.recorded k d lt), omega arith); whole = refl; spelled = refl }

these_entries : (c : Chunk) (entries : List Entry) → IsChunk c → SpellsEntries (length c.entries) (entries_bytes c.entries) entries → entries ≡ c.entries
these_entries c entries is are =
    let n = length c.entries in
    same_items entry_bytes IsChunkEntry (AreEntries n) (tags.Count n) chunk_entry_code (limited_closed IsChunkEntry n) (entries_bytes c.entries) entries c.entries are (chunk_entries c is)

count_not_wrong : (c : Chunk) (place : ℕ) → IsChunk c → CountWrong (header_of c) (entries_bytes c.entries) place → ⊥
count_not_wrong c place is (LongPayload long at) = let payload = is.payload in omega arith
count_not_wrong c place is (NoEntries short none at) = let some = is.some in omega arith
count_not_wrong c place is (EntryWrong sized at wrong here) =
    let n = length c.entries in
    not_wrong entry_bytes IsChunkEntry (AreEntries n) (tags.Count n) chunk_entry_code (limited_closed IsChunkEntry n) (entries_bytes c.entries) c.entries at (chunk_entries c is) wrong
count_not_wrong c place is (SumWrong sized entries are differ at) = differ (ap records_of (these_entries c entries is are))
count_not_wrong c place is (LastWrong sized entries are sum past at) = let last = is.last in omega arith

trailer_not_wrong : (kind : ChunkKind) (entries : List Entry) (trailer : List ℕ) (at : ℕ) → HoldsByKind kind entries trailer → TrailerWrong kind (length entries) trailer at → ⊥
trailer_not_wrong User entries trailer at (inl none) wrong = wrong.0 none
trailer_not_wrong User entries trailer at (inr spelled) wrong = tags_not_wrong (length entries) trailer spelled.0 at spelled.1 wrong.1
trailer_not_wrong Delta entries trailer at holds wrong = wrong.0 holds.0
trailer_not_wrong Snapshot entries trailer at holds wrong = wrong.0 holds.0

same_body : (entries : List Entry) (x y : List ℕ) → IsOneSimple entries x → IsOneSimple entries y → x ≡ y
same_body entries x y p q = let e : Simple x ∷ [] ≡ Simple y ∷ [] = sym p ∙ q in cc

tracking_not_wrong : (kind : ChunkKind) (entries : List Entry) (trailer : List ℕ) (place : ℕ) → HoldsByKind kind entries trailer → TrackingWrong kind entries place → ⊥
tracking_not_wrong User entries trailer place holds wrong = wrong
tracking_not_wrong Delta entries trailer place holds (inl none) = let h = holds.1 in none.0 h.0 h.2
tracking_not_wrong Delta entries trailer place holds (inr wrong) =
    let h = holds.1 in
    delta_not_wrong wrong.0 h.1 wrong.1 (subst (λ (x : List ℕ). tags.SpellsDelta x h.1) (same_body entries h.0 wrong.0 h.2 wrong.2) h.3) wrong.3
tracking_not_wrong Snapshot entries trailer place holds (inl none) = let h = holds.1 in none.0 h.0 h.2
tracking_not_wrong Snapshot entries trailer place holds (inr wrong) =
    let h = holds.1 in
    snapshot_not_wrong wrong.0 h.1 wrong.1 (subst (λ (x : List ℕ). tags.SpellsSnapshot x h.1) (same_body entries h.0 wrong.0 h.2 wrong.2) h.3) wrong.3

parts_not_wrong : (fault : ChunkFault) (c : Chunk) → IsChunk c → PartsWrong (header_of c) (entries_bytes c.entries) c.trailer fault → ⊥
parts_not_wrong (Count place) c is wrong = count_not_wrong c place is wrong
parts_not_wrong (Crc place stored computed) c is wrong = wrong.3 (wrong.1 ∙ sym wrong.2)
parts_not_wrong (Trailer place) c is wrong = trailer_not_wrong c.kind c.entries c.trailer wrong.1 is.content wrong.3
parts_not_wrong (Tracking place) c is wrong =
    tracking_not_wrong c.kind c.entries c.trailer place is.content (subst (λ (es : List Entry). TrackingWrong c.kind es place) (these_entries c wrong.0 is wrong.1.0.are) wrong.3)
parts_not_wrong (Short place) c is wrong = wrong
parts_not_wrong (Magic place) c is wrong = wrong
parts_not_wrong (Version place) c is wrong = wrong
parts_not_wrong (Kind place) c is wrong = wrong
parts_not_wrong (Reserved place) c is wrong = wrong

-- ---- the bytes that a chunk begins

pub payload_at : (c : Chunk) (rest bytes : List ℕ) → bytes ≡ chunk_bytes c ++ rest → (payload_of (header_of c) bytes ≡ entries_bytes c.entries) × (trailer_of (header_of c) bytes ≡ c.trailer)
payload_at c rest bytes e =
    let payload = entries_bytes c.entries in
    let behind : drop 48 bytes ≡ payload ++ (c.trailer ++ rest) = ap (drop 48) (e ∙ chunk_then c rest) ∙ drop_at (header_bytes (header_of c)) (payload ++ (c.trailer ++ rest)) 48 (header_length (header_of c)) in
    let after : drop (48 + length payload) bytes ≡ c.trailer ++ rest =
    sym (drop-drop (length payload) 48 bytes) ∙ ap (drop (length payload)) behind ∙ drop_at payload (c.trailer ++ rest) (length payload) refl in
    (ap (take (length payload)) behind ∙ take_at payload (c.trailer ++ rest) (length payload) refl, ap (take (length c.trailer)) after ∙ take_at c.trailer rest (length c.trailer) refl)

this_header : (h : Header) (c : Chunk) (rest bytes : List ℕ) → ((i : ℕ) → get_or bytes i 0 < 256) → IsChunk c → bytes ≡ chunk_bytes c ++ rest → HeaderStands h bytes → h ≡ header_of c
this_header h c rest bytes each is e stands =
    let fits : Fits h = record { entries = stands.0.entries; records = stands.0.records; stamp = stands.0.stamp; epoch = stands.0.epoch; first = stands.0.first; payload_len = stands.0.payload_len; trailer_len = stands.0.trailer_len } in
    let s = same_heads h (header_of c) (drop 48 bytes) (entries_bytes c.entries ++ (c.trailer ++ rest)) fits (chunk_fits c is) (sym stands.1 ∙ e ∙ chunk_then c rest) in
    let payload = (payload_at c rest bytes e).0 in
    let payload_bytes : (i : ℕ) → get_or (entries_bytes c.entries) i 0 < 256 =
    subst (λ (l : List ℕ). (i : ℕ) → get_or l i 0 < 256) payload (IsBytes-take (length (entries_bytes c.entries)) (drop 48 bytes) (IsBytes-drop 48 bytes each)) in
    let crc : h.crc ≡ crc_of (entries_bytes c.entries) =
    (u32_same h.crc (crc_of (entries_bytes c.entries)) [] [] stands.0.crc (crc_fits (entries_bytes c.entries) payload_bytes) (ap (λ (l : List ℕ). l ++ []) s.crc)).0 in
    same_header h (header_of c) s.kind s.entries s.records s.stamp s.epoch s.first crc s.payload_len s.trailer_len

body_not_wrong : (fault : ChunkFault) (c : Chunk) (rest bytes : List ℕ) → IsChunk c → bytes ≡ chunk_bytes c ++ rest → (h : Header) → h ≡ header_of c → BodyWrong h bytes fault → ⊥
body_not_wrong fault c rest bytes is e h same (inl short) =
    let len = ap whole_len same in
    omega (arith, short.0, len, ap length e, length-append (chunk_bytes c) rest, chunk_length c)
body_not_wrong fault c rest bytes is e h same (inr wrong) =
    let at = payload_at c rest bytes e in
    let here : PartsWrong (header_of c) (payload_of (header_of c) bytes) (trailer_of (header_of c) bytes) fault =
    subst (λ (g : Header). PartsWrong g (payload_of g bytes) (trailer_of g bytes) fault) same wrong.1 in
    let mine : PartsWrong (header_of c) (entries_bytes c.entries) c.trailer fault =
    subst (λ (l : List ℕ). PartsWrong (header_of c) (entries_bytes c.entries) l fault) at.1 (subst (λ (l : List ℕ). PartsWrong (header_of c) l (trailer_of (header_of c) bytes) fault) at.0 here) in
    parts_not_wrong fault c is mine

-- where a chunk begins the bytes no check fails
pub spelled_not_wrong : (fault : ChunkFault) (c : Chunk) (rest bytes : List ℕ) → ((i : ℕ) → get_or bytes i 0 < 256) → IsChunk c → bytes ≡ chunk_bytes c ++ rest → ChunkWrong bytes fault → ⊥
spelled_not_wrong fault c rest bytes each is e (inl wrong) = header_not_wrong fault (header_of c) (entries_bytes c.entries ++ (c.trailer ++ rest)) bytes (e ∙ chunk_then c rest) wrong
spelled_not_wrong fault c rest bytes each is e (inr wrong) = body_not_wrong fault c rest bytes is e wrong.0 (this_header wrong.0 c rest bytes each is e wrong.1) wrong.2
