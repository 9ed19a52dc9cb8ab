-- The spelling of a header gives it back.
use Rattle.std.proofs.Common.{◌≡◌, ℕ, ℤ, ◌%◌, ◌^◌, ◌<◌, ◌≤◌, List, [], ◌∷◌, ◌++◌, length, get_or, take, drop, w64, refl, sym, ap, ◌∙◌, append_assoc, arith}
use Rattle.std.specs.Int.{cast_unsigned, cast_signed}
use Rattle.std.specs.Int.RustNames.{FitsSigned}
use Rattle.std.proofs.Math.Facts.{Fits-of_z}
use Rattle.std.proofs.lemmas.Int.{to_z-of_z}
use Rattle.std.proofs.lemmas.List.{take_at}
use Rattle.frame_wire.specs.Fields.{u8_bytes, u16_bytes, u32_bytes, u64_bytes, i64_bytes}
use Rattle.frame_wire.proofs.FieldLaws.{u32_length, u8_same, u16_same, u32_same, u64_same}
use Rattle.chunk_format.specs.declared.chunk.ChunkKind.{ChunkKind}
use Rattle.chunk_format.specs.declared.chunk.Header.{Header}
use Rattle.chunk_format.specs.Chunks.{kind_code, kind_bytes, header_bytes}
use Rattle.chunk_format.specs.Faults.{IsHeader}
use Rattle.chunk_format.proofs.ChunkLaws.{kind_same, kind_small}

unsigned_fits : (z : ℤ) → FitsSigned w64 z → cast_unsigned w64 z < 2 ^ 64
unsigned_fits z fits = (Fits-of_z {w = w64} {z = z} fits).fits

pub i64_same : (n m : ℤ) (x y : List ℕ) → FitsSigned w64 n → FitsSigned w64 m → i64_bytes n ++ x ≡ i64_bytes m ++ y → (n ≡ m) × (x ≡ y)
unfolding i64_bytes u64_bytes
i64_same n m x y n_fits m_fits e =
    let s = u64_same (cast_unsigned w64 n) (cast_unsigned w64 m) x y (unsigned_fits n n_fits) (unsigned_fits m m_fits) e in
    (sym (to_z-of_z w64 n n_fits) ∙ ap (cast_signed w64) s.0 ∙ to_z-of_z w64 m m_fits, s.1)

-- the fields one behind the other
unfoldable pub lengths_then : Header → List ℕ → List ℕ
lengths_then h a = u32_bytes h.crc ++ (u32_bytes h.payload_len ++ (u32_bytes h.trailer_len ++ (u32_bytes 0 ++ a)))

unfoldable pub offsets_then : Header → List ℕ → List ℕ
offsets_then h a = i64_bytes h.stamp ++ (u64_bytes h.epoch ++ (u64_bytes h.first ++ lengths_then h a))

unfoldable pub fields_then : Header → List ℕ → List ℕ
fields_then h a = u8_bytes 0x50 ++ (u8_bytes (kind_code h.kind) ++ (u16_bytes h.entries ++ (u32_bytes h.records ++ offsets_then h a)))

pub fields_are : (h : Header) (a : List ℕ) → header_bytes h ++ a ≡ fields_then h a
unfolding header_bytes lengths_then offsets_then fields_then
fields_are h a = simp append_assoc

lengths_same : (h g : Header) (a b : List ℕ) → IsHeader h → IsHeader g → lengths_then h a ≡ lengths_then g b → (h.crc ≡ g.crc) × (h.payload_len ≡ g.payload_len) × (h.trailer_len ≡ g.trailer_len) × (a ≡ b)
unfolding lengths_then
lengths_same h g a b p q e =
    let s1 = u32_same h.crc g.crc _ _ p.crc q.crc e in
    let s2 = u32_same h.payload_len g.payload_len _ _ p.payload_len q.payload_len s1.1 in
    let s3 = u32_same h.trailer_len g.trailer_len _ _ p.trailer_len q.trailer_len s2.1 in
    let s4 = u32_same 0 0 a b (omega arith) (omega arith) s3.1 in
    (s1.0, s2.0, s3.0, s4.1)

offsets_same : (h g : Header) (a b : List ℕ) → IsHeader h → IsHeader g → offsets_then h a ≡ offsets_then g b → (h.stamp ≡ g.stamp) × (h.epoch ≡ g.epoch) × (h.first ≡ g.first) × (lengths_then h a ≡ lengths_then g b)
unfolding offsets_then
offsets_same h g a b p q e =
    let s1 = i64_same h.stamp g.stamp _ _ p.stamp q.stamp e in
    let s2 = u64_same h.epoch g.epoch _ _ p.epoch q.epoch s1.1 in
    let s3 = u64_same h.first g.first _ _ p.first q.first s2.1 in
    (s1.0, s2.0, s3.0, s3.1)

fields_same : (h g : Header) (a b : List ℕ) → IsHeader h → IsHeader g → fields_then h a ≡ fields_then g b → (h.kind ≡ g.kind) × (h.entries ≡ g.entries) × (h.records ≡ g.records) × (offsets_then h a ≡ offsets_then g b)
unfolding fields_then
fields_same h g a b p q e =
    let s0 = u8_same 0x50 0x50 _ _ (omega arith) (omega arith) e in
    let s1 = u8_same (kind_code h.kind) (kind_code g.kind) _ _ (kind_small h.kind) (kind_small g.kind) s0.1 in
    let s2 = u16_same h.entries g.entries _ _ p.entries q.entries s1.1 in
    let s3 = u32_same h.records g.records _ _ p.records q.records s2.1 in
    (kind_same h.kind g.kind s1.0, s2.0, s3.0, s3.1)

made : ChunkKind → ℕ → ℕ → ℤ → ℕ → ℕ → ℕ → ℕ → ℕ → Header
made kind entries records stamp epoch first crc payload_len trailer_len =
    record { kind = kind; entries = entries; records = records; stamp = stamp; epoch = epoch; first = first; crc = crc; payload_len = payload_len; trailer_len = trailer_len }

made_is : (h : Header) → made h.kind h.entries h.records h.stamp h.epoch h.first h.crc h.payload_len h.trailer_len ≡ h
unfolding made
made_is h = refl

pub same_header : (h g : Header) → h.kind ≡ g.kind → h.entries ≡ g.entries → h.records ≡ g.records → h.stamp ≡ g.stamp → h.epoch ≡ g.epoch → h.first ≡ g.first → h.crc ≡ g.crc → h.payload_len ≡ g.payload_len
    → h.trailer_len ≡ g.trailer_len → h ≡ g
same_header h g kind entries records stamp epoch first crc payload_len trailer_len =
    let all : made h.kind h.entries h.records h.stamp h.epoch h.first h.crc h.payload_len h.trailer_len ≡ made g.kind g.entries g.records g.stamp g.epoch g.first g.crc g.payload_len g.trailer_len = cc in
    sym (made_is h) ∙ all ∙ made_is g

pub header_same : (h g : Header) (a b : List ℕ) → IsHeader h → IsHeader g → header_bytes h ++ a ≡ header_bytes g ++ b → (h ≡ g) × (a ≡ b)
header_same h g a b p q e =
    let s1 = fields_same h g a b p q (sym (fields_are h a) ∙ e ∙ fields_are g b) in
    let s2 = offsets_same h g a b p q s1.3 in
    let s3 = lengths_same h g a b p q s2.3 in
    (same_header h g s1.0 s1.1 s1.2 s2.0 s2.1 s2.2 s3.0 s3.1 s3.2, s3.3)

-- ---- reading

pub two_bytes : (bytes : List ℕ) (kind : ChunkKind) → 2 ≤ length bytes → get_or bytes 0 0 ≡ 0x50 → get_or bytes 1 0 ≡ kind_code kind → bytes ≡ kind_bytes kind ++ drop 2 bytes
unfolding u8_bytes
two_bytes [] kind long first second = absurd (omega arith)
two_bytes (a ∷ []) kind long first second = absurd (omega arith)
two_bytes (a ∷ b ∷ bytes) kind long first second =
    let fits = kind_small kind in
    let b_is : b ≡ kind_code kind % 256 = omega arith in
    ap (λ (n : ℕ). n ∷ b ∷ bytes) first ∙ ap (λ (n : ℕ). 0x50 ∷ n ∷ bytes) b_is

pub fields_read : (bytes : List ℕ) (h : Header) → bytes ≡ kind_bytes h.kind ++ drop 2 bytes → drop 2 bytes ≡ u16_bytes h.entries ++ drop 4 bytes → drop 4 bytes ≡ u32_bytes h.records ++ drop 8 bytes
    → drop 8 bytes ≡ i64_bytes h.stamp ++ drop 16 bytes → drop 16 bytes ≡ u64_bytes h.epoch ++ drop 24 bytes → drop 24 bytes ≡ u64_bytes h.first ++ drop 32 bytes
    → drop 32 bytes ≡ u32_bytes h.crc ++ drop 36 bytes → drop 36 bytes ≡ u32_bytes h.payload_len ++ drop 40 bytes → drop 40 bytes ≡ u32_bytes h.trailer_len ++ drop 44 bytes
    → drop 44 bytes ≡ u32_bytes 0 ++ drop 48 bytes → bytes ≡ header_bytes h ++ drop 48 bytes
unfolding fields_then offsets_then lengths_then
fields_read bytes h e0 e2 e4 e8 e16 e24 e32 e36 e40 e44 =
    let lengths : drop 32 bytes ≡ lengths_then h (drop 48 bytes) =
    e32 ∙ ap (λ (l : List ℕ). u32_bytes h.crc ++ l) (e36 ∙ ap (λ (l : List ℕ). u32_bytes h.payload_len ++ l) (e40 ∙ ap (λ (l : List ℕ). u32_bytes h.trailer_len ++ l) e44)) in
    let offsets : drop 8 bytes ≡ offsets_then h (drop 48 bytes) =
    e8 ∙ ap (λ (l : List ℕ). i64_bytes h.stamp ++ l) (e16 ∙ ap (λ (l : List ℕ). u64_bytes h.epoch ++ l) (e24 ∙ ap (λ (l : List ℕ). u64_bytes h.first ++ l) lengths)) in
    let counts : drop 2 bytes ≡ u16_bytes h.entries ++ (u32_bytes h.records ++ offsets_then h (drop 48 bytes)) =
    e2 ∙ ap (λ (l : List ℕ). u16_bytes h.entries ++ l) (e4 ∙ ap (λ (l : List ℕ). u32_bytes h.records ++ l) offsets) in
    e0 ∙ append_assoc (u8_bytes 0x50) (u8_bytes (kind_code h.kind)) (drop 2 bytes) ∙ ap (λ (l : List ℕ). u8_bytes 0x50 ++ (u8_bytes (kind_code h.kind) ++ l)) counts ∙ sym (fields_are h (drop 48 bytes))

pub not_reserved : (bytes : List ℕ) (n : ℕ) → n < 2 ^ 32 → drop 44 bytes ≡ u32_bytes n ++ drop 48 bytes → take 4 (drop 44 bytes) ≡ u32_bytes 0 → n ≡ 0
not_reserved bytes n fits stands zero =
    let front : u32_bytes n ≡ u32_bytes 0 = sym (ap (take 4) stands ∙ take_at (u32_bytes n) (drop 48 bytes) 4 (u32_length n)) ∙ zero in
    (u32_same n 0 [] [] fits (omega arith) (ap (λ (l : List ℕ). l ++ []) front)).0
