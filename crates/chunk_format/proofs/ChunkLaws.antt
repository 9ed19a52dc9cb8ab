-- What the bytes of a chunk give back, and the rows of a log that grows.
use Rattle.std.proofs.Common.{◌≡◌, ℕ, ℤ, ◌+◌, ◌^◌, ◌<◌, List, [], ◌∷◌, ◌++◌, length, take, drop, refl, sym, ap, ◌∙◌, append_assoc, arith, length-append}
use Rattle.std.specs.Int.{w8, w64, from_be_bytes}
use Rattle.std.proofs.lemmas.List.{take_at, drop_at, append-nil}
use Rattle.std.proofs.lemmas.Grind.{flat_map-append}
use Rattle.frame_wire.specs.Fields.{u8_bytes, u16_bytes, u32_bytes, u64_bytes, i64_bytes}
use Rattle.frame_wire.proofs.FieldLaws.{u8_length, u16_length, u32_length, u64_length, u8_back, u64_back}
use Rattle.chunk_format.specs.declared.chunk.ChunkKind.{ChunkKind}
use Rattle.chunk_format.specs.declared.chunk.ChunkKind.TheVariants.{User, Delta, Snapshot}
use Rattle.chunk_format.specs.declared.chunk.Header.{Header}
use Rattle.chunk_format.specs.declared.chunk.Chunk.{Chunk}
use Rattle.chunk_format.specs.Chunks.{kind_code, kind_bytes, head_bytes, length_bytes, header_bytes, header_of, entries_bytes, chunk_bytes, IsChunk}
use Rattle.chunk_format.specs.LogRows.{LogRow, chunk_rows, Rows}

i64_length : (n : ℤ) → length (i64_bytes n) ≡ 8
unfolding i64_bytes
i64_length n = refl

-- the part of this length after this front
pub part_at : (front part back : List ℕ) (at size : ℕ) → length front ≡ at → length part ≡ size → take size (drop at (front ++ (part ++ back))) ≡ part
part_at front part back at size len size_is = ap (take size) (drop_at front (part ++ back) at len) ∙ take_at part back size size_is

pub head_length : (h : Header) → length (head_bytes h) ≡ 16
head_length h =
    let a = length-append (kind_bytes h.kind) (u16_bytes h.entries ++ (u32_bytes h.records ++ i64_bytes h.stamp)) in
    let b = length-append (u8_bytes 0x50) (u8_bytes (kind_code h.kind)) in
    let c = length-append (u16_bytes h.entries) (u32_bytes h.records ++ i64_bytes h.stamp) in
    let d = length-append (u32_bytes h.records) (i64_bytes h.stamp) in
    omega (arith, a, b, c, d, u8_length 0x50, u8_length (kind_code h.kind), u16_length h.entries, u32_length h.records, i64_length h.stamp)

lengths_length : (h : Header) → length (length_bytes h) ≡ 16
lengths_length h =
    let a = length-append (u32_bytes h.crc) (u32_bytes h.payload_len ++ (u32_bytes h.trailer_len ++ u32_bytes 0)) in
    let b = length-append (u32_bytes h.payload_len) (u32_bytes h.trailer_len ++ u32_bytes 0) in
    let c = length-append (u32_bytes h.trailer_len) (u32_bytes 0) in
    omega (arith, a, b, c, u32_length h.crc, u32_length h.payload_len, u32_length h.trailer_len, u32_length 0)

pub header_length : (h : Header) → length (header_bytes h) ≡ 48
unfolding header_bytes
header_length h =
    let a = length-append (head_bytes h) (u64_bytes h.epoch ++ (u64_bytes h.first ++ length_bytes h)) in
    let b = length-append (u64_bytes h.epoch) (u64_bytes h.first ++ length_bytes h) in
    let c = length-append (u64_bytes h.first) (length_bytes h) in
    omega (arith, a, b, c, head_length h, lengths_length h, u64_length h.epoch, u64_length h.first)

pub chunk_length : (c : Chunk) → length (chunk_bytes c) ≡ 48 + length (entries_bytes c.entries) + length c.trailer
chunk_length c =
    let a = length-append (header_bytes (header_of c)) (entries_bytes c.entries ++ c.trailer) in
    omega (arith, a, length-append (entries_bytes c.entries) c.trailer, header_length (header_of c))

pub epoch_part : (h : Header) (rest : List ℕ) → take 8 (drop 16 (header_bytes h ++ rest)) ≡ u64_bytes h.epoch
unfolding header_bytes
epoch_part h rest =
    let regroup : header_bytes h ++ rest ≡ head_bytes h ++ (u64_bytes h.epoch ++ ((u64_bytes h.first ++ length_bytes h) ++ rest)) =
    append_assoc (head_bytes h) (u64_bytes h.epoch ++ (u64_bytes h.first ++ length_bytes h)) rest
    ∙ ap (λ (x : List ℕ). head_bytes h ++ x) (append_assoc (u64_bytes h.epoch) (u64_bytes h.first ++ length_bytes h) rest) in
    ap (λ (x : List ℕ). take 8 (drop 16 x)) regroup
    ∙ part_at (head_bytes h) (u64_bytes h.epoch) ((u64_bytes h.first ++ length_bytes h) ++ rest) 16 8 (head_length h) (u64_length h.epoch)

pub first_part : (h : Header) (rest : List ℕ) → take 8 (drop 24 (header_bytes h ++ rest)) ≡ u64_bytes h.first
unfolding header_bytes
first_part h rest =
    let front = head_bytes h ++ u64_bytes h.epoch in
    let len : length front ≡ 24 = omega (arith, length-append (head_bytes h) (u64_bytes h.epoch), head_length h, u64_length h.epoch) in
    let regroup : header_bytes h ++ rest ≡ front ++ (u64_bytes h.first ++ (length_bytes h ++ rest)) =
    ap (λ (x : List ℕ). x ++ rest) (sym (append_assoc (head_bytes h) (u64_bytes h.epoch) (u64_bytes h.first ++ length_bytes h)))
    ∙ append_assoc front (u64_bytes h.first ++ length_bytes h) rest
    ∙ ap (λ (x : List ℕ). front ++ x) (append_assoc (u64_bytes h.first) (length_bytes h) rest) in
    ap (λ (x : List ℕ). take 8 (drop 24 x)) regroup
    ∙ part_at front (u64_bytes h.first) (length_bytes h ++ rest) 24 8 len (u64_length h.first)

pub kind_part : (h : Header) (rest : List ℕ) → take 1 (drop 1 (header_bytes h ++ rest)) ≡ u8_bytes (kind_code h.kind)
unfolding header_bytes
kind_part h rest =
    let after = u16_bytes h.entries ++ (u32_bytes h.records ++ i64_bytes h.stamp) in
    let tail = u64_bytes h.epoch ++ (u64_bytes h.first ++ length_bytes h) in
    let regroup : header_bytes h ++ rest ≡ u8_bytes 0x50 ++ (u8_bytes (kind_code h.kind) ++ (after ++ (tail ++ rest))) =
    append_assoc (head_bytes h) tail rest
    ∙ append_assoc (kind_bytes h.kind) after (tail ++ rest)
    ∙ append_assoc (u8_bytes 0x50) (u8_bytes (kind_code h.kind)) (after ++ (tail ++ rest)) in
    ap (λ (x : List ℕ). take 1 (drop 1 x)) regroup
    ∙ part_at (u8_bytes 0x50) (u8_bytes (kind_code h.kind)) (after ++ (tail ++ rest)) 1 1 (u8_length 0x50) (u8_length (kind_code h.kind))

pub kind_low : (k : ChunkKind) → kind_code k < 3
kind_low User = omega arith
kind_low Delta = omega arith
kind_low Snapshot = omega arith

pub kind_small : (k : ChunkKind) → kind_code k < 2 ^ 8
kind_small User = omega arith
kind_small Delta = omega arith
kind_small Snapshot = omega arith

pub kind_same : (j k : ChunkKind) → kind_code j ≡ kind_code k → j ≡ k
kind_same User User e = refl
kind_same User Delta e = absurd (omega arith)
kind_same User Snapshot e = absurd (omega arith)
kind_same Delta User e = absurd (omega arith)
kind_same Delta Delta e = refl
kind_same Delta Snapshot e = absurd (omega arith)
kind_same Snapshot User e = absurd (omega arith)
kind_same Snapshot Delta e = absurd (omega arith)
kind_same Snapshot Snapshot e = refl

-- the epoch, the first offset and the kind stand at their places
pub epoch_at : (c : Chunk) → c.epoch < 2 ^ 64 → from_be_bytes w64 (take 8 (drop 16 (chunk_bytes c))) ≡ c.epoch
epoch_at c fits = ap (from_be_bytes w64) (epoch_part (header_of c) (entries_bytes c.entries ++ c.trailer)) ∙ u64_back c.epoch fits

pub first_at : (c : Chunk) → c.first < 2 ^ 64 → from_be_bytes w64 (take 8 (drop 24 (chunk_bytes c))) ≡ c.first
first_at c fits = ap (from_be_bytes w64) (first_part (header_of c) (entries_bytes c.entries ++ c.trailer)) ∙ u64_back c.first fits

pub kind_at : (c : Chunk) → from_be_bytes w8 (take 1 (drop 1 (chunk_bytes c))) ≡ kind_code c.kind
kind_at c = ap (from_be_bytes w8) (kind_part (header_of c) (entries_bytes c.entries ++ c.trailer)) ∙ u8_back (kind_code c.kind) (kind_small c.kind)

pub first_fits : (c : Chunk) → IsChunk c → c.first < 2 ^ 64
first_fits c is = let last = is.last in omega arith

-- chunks with the same bytes have the same epoch, first offset and kind
pub same_epoch : (c d : Chunk) → IsChunk c → IsChunk d → chunk_bytes c ≡ chunk_bytes d → c.epoch ≡ d.epoch
same_epoch c d p q e = sym (epoch_at c p.epoch_fits) ∙ ap (λ (x : List ℕ). from_be_bytes w64 (take 8 (drop 16 x))) e ∙ epoch_at d q.epoch_fits

pub same_first : (c d : Chunk) → IsChunk c → IsChunk d → chunk_bytes c ≡ chunk_bytes d → c.first ≡ d.first
same_first c d p q e = sym (first_at c (first_fits c p)) ∙ ap (λ (x : List ℕ). from_be_bytes w64 (take 8 (drop 24 x))) e ∙ first_at d (first_fits d q)

pub same_kind : (c d : Chunk) → chunk_bytes c ≡ chunk_bytes d → c.kind ≡ d.kind
same_kind c d e = kind_same c.kind d.kind (sym (kind_at c) ∙ ap (λ (x : List ℕ). from_be_bytes w8 (take 1 (drop 1 x))) e ∙ kind_at d)

-- the rows of a log, and of one chunk more
pub Rows-append : (l m : List Chunk) → Rows (l ++ m) ≡ Rows l ++ Rows m
Rows-append l m = flat_map-append chunk_rows l m

pub Rows-push : (l : List Chunk) (c : Chunk) → Rows (l ++ c ∷ []) ≡ Rows l ++ chunk_rows c
Rows-push l c = flat_map-append chunk_rows l (c ∷ []) ∙ ap (λ (x : List LogRow). Rows l ++ x) (append-nil (chunk_rows c))
