-- Bytes that a chunk goes on from, and bytes that it doesn't.
use Rattle.std.proofs.Common.{◌≡◌, ◌⊎◌, inl, inr, ℕ, ◌%◌, ◌/◌, ◌^◌, ◌<◌, ◌≤◌, List, ◌++◌, length, take, drop, Option, Bool, true, false, Result, Err, refl, sym, ap, subst, ◌∙◌, length-append, arith}
use Rattle.std.specs.Prelude.{IsTrue, ◌↔◌}
use Rattle.std.specs.List.{All}
use Rattle.std.proofs.lemmas.Bool.{cases_lt}
use Rattle.std.proofs.lemmas.List.{take-append-le, take-append-drop, take_all, take-take, take_at, length-take-le}
use Rattle.std.proofs.lemmas.List.Sums.{sum_by-le}
use Rattle.frame_wire.specs.Fields.{u32_bytes, u64_bytes}
use Rattle.chunk_format.specs.declared.entry.Entry.{Entry}
use Rattle.chunk_format.specs.declared.entry.Entry.TheVariants.{Simple, Batch}
use Rattle.chunk_format.specs.declared.chunk.Chunk.{Chunk}
use Rattle.chunk_format.specs.declared.chunk.Header.{Header}
use Rattle.chunk_format.specs.declared.fault.ChunkFault.{ChunkFault}
use Rattle.chunk_format.specs.declared.fault.ChunkFault.TheVariants.{Short}
use Rattle.chunk_format.specs.Chunks.{IsEntry, entry_records, records_of, entries_bytes, head_bytes, header_bytes, header_of, chunk_bytes, IsChunk}
use Rattle.chunk_format.specs.Faults.{IsHeader, HeaderStands, ChunkWrong, BeginsWith}
use Rattle.chunk_format.proofs.ChunkLaws.{first_fits, header_length, chunk_length}
use Rattle.chunk_format.proofs.TagLaws.{trailer_fits}
use Rattle.chunk_format.proofs.BeginLaws.{begins_still}
use Rattle.chunk_format.proofs.ReadLaws.{same_begun}
use Rattle.segment_pairs.specs.Log.{size_of}
use Rattle.segment_pairs.proofs.Reading.{begins_parts}
use Rattle.osiris_audit.specs.Fronts.{NoChunk, MayBegin}

-- a number of four bytes is spelled as its lowest 32 bits
low_bytes : (n : ℕ) → u32_bytes (n % 4294967296) ≡ u32_bytes n
unfolding u32_bytes
low_bytes n =
    let first : n % 4294967296 / 16777216 % 256 ≡ n / 16777216 % 256 = omega arith in
    let second : n % 4294967296 / 65536 % 256 ≡ n / 65536 % 256 = omega arith in
    let third : n % 4294967296 / 256 % 256 ≡ n / 256 % 256 = omega arith in
    let fourth : n % 4294967296 % 256 ≡ n % 256 = omega arith in
    cc

few_records : (x : Entry) → IsEntry x → entry_records x ≤ 65535
few_records (Simple body) f = omega arith
few_records (Batch c s r u body) f = let fits = f.2 in omega arith

records_fit : (c : Chunk) → IsChunk c → records_of c.entries < 2 ^ 32
records_fit c is =
    let most : All (λ (x : Entry). entry_records x ≤ 65535) c.entries = λ k d lt. few_records _ (is.each k d lt) in
    omega (arith, is.few, sum_by-le entry_records 65535 c.entries most)

-- the header of a chunk, its checksum as four bytes give it
abbrev read_header : Chunk → Header
read_header c = record (header_of c) { crc = (header_of c).crc % 4294967296 }

read_fits : (c : Chunk) → IsChunk c → IsHeader (read_header c)
read_fits c is = record {
  entries = is.few;
  records = records_fit c is;
  stamp = is.stamp_fits;
  epoch = is.epoch_fits;
  first = first_fits c is;
  crc = omega arith;
  payload_len = let payload = is.payload in omega arith;
  trailer_len = trailer_fits c is;
}

abbrev spelled_with : Header → List ℕ → List ℕ
spelled_with h crc = head_bytes h ++ (u64_bytes h.epoch ++ (u64_bytes h.first ++ (crc ++ (u32_bytes h.payload_len ++ (u32_bytes h.trailer_len ++ u32_bytes 0)))))

read_bytes : (c : Chunk) → header_bytes (read_header c) ≡ header_bytes (header_of c)
unfolding header_bytes
read_bytes c = ap (spelled_with (header_of c)) (low_bytes (header_of c).crc)

-- the header of a chunk stands in front of its first bytes
header_stands : (c : Chunk) (bytes rest : List ℕ) → IsChunk c → chunk_bytes c ≡ bytes ++ rest → 48 ≤ length bytes → HeaderStands (read_header c) bytes
header_stands c bytes rest is e long =
    let behind = entries_bytes c.entries ++ c.trailer in
    let front : take 48 bytes ≡ header_bytes (read_header c) =
    sym (take-append-le 48 bytes rest long) ∙ ap (take 48) (sym e) ∙ take_at (header_bytes (header_of c)) behind 48 (header_length (header_of c)) ∙ sym (read_bytes c) in
    (read_fits c is, sym (take-append-drop 48 bytes) ∙ ap (λ (l : List ℕ). l ++ drop 48 bytes) front)

-- a part of a chunk is told to be short
pub part_is_short : (c : Chunk) (bytes rest : List ℕ) → IsChunk c → chunk_bytes c ≡ bytes ++ rest → 1 ≤ length rest → ChunkWrong bytes (Short (length bytes))
part_is_short c bytes rest is e some = elim (cases_lt (length bytes) 48) [
  | inl lt ↦ inl (lt, refl)
  | inr ge ↦ inr (read_header c, header_stands c bytes rest is e ge, inl (omega (arith, ap length e, length-append bytes rest, chunk_length c, some), refl))
]

-- a chunk in front of longer bytes stands in front of these, or these are a part of it
reaches : (c : Chunk) (used : ℕ) (bytes more : List ℕ) → BeginsWith c used (bytes ++ more) → BeginsWith c used bytes ⊎ ((rest : List ℕ) × (chunk_bytes c ≡ bytes ++ rest) × (1 ≤ length rest))
reaches c used bytes more begins = elim (cases_lt (length bytes) used) [
  | inl lt ↦
      let all : chunk_bytes c ≡ take used (bytes ++ more) = sym begins.1.spelled in
      let front : take (length bytes) (chunk_bytes c) ≡ bytes =
      ap (take (length bytes)) all ∙ take-take (length bytes) used (bytes ++ more) (omega arith) ∙ take-append-le (length bytes) bytes more (omega arith) ∙ take_all (length bytes) bytes (omega arith) in
      let parts : chunk_bytes c ≡ bytes ++ drop (length bytes) (chunk_bytes c) = sym (take-append-drop (length bytes) (chunk_bytes c)) ∙ ap (λ (l : List ℕ). l ++ drop (length bytes) (chunk_bytes c)) front in
      let len : length (chunk_bytes c) ≡ used = ap length all ∙ length-take-le used (bytes ++ more) begins.0 in
      inr (drop (length bytes) (chunk_bytes c), parts, omega (arith, len, ap length parts, length-append bytes (drop (length bytes) (chunk_bytes c))))
  | inr ge ↦ inl (omega arith, record { is_chunk = begins.1.is_chunk; spelled = sym (take-append-le used bytes more (omega arith)) ∙ begins.1.spelled })
]

-- where a check fails, and not for want of bytes, no chunk stands in front, whatever follows
pub never_stands : (bytes : List ℕ) (fault : ChunkFault) → NoChunk bytes → ((place : ℕ) → ChunkWrong bytes (Short place) → fault ≡ Short place) → ((place : ℕ) → fault ≡ Short place → ⊥) → (more : List ℕ) → NoChunk (bytes ++ more)
never_stands bytes fault none told whole more c used begins = elim (reaches c used bytes more begins) [
  | inl here ↦ none c used here
  | inr part ↦ whole (length bytes) (told (length bytes) (part_is_short c bytes part.0 begins.1.is_chunk part.1 part.2))
]

-- a chunk in front is as long as its bytes
pub whole_chunk : (c : Chunk) (used : ℕ) (bytes : List ℕ) → BeginsWith c used bytes → BeginsWith c (size_of c) bytes
whole_chunk c used bytes at = subst (λ (k : ℕ). BeginsWith c k bytes) (begins_parts c used bytes at).1 at

-- another chunk in front of longer bytes is none
pub only_front : (end : Option ℕ) (c d : Chunk) (used : ℕ) (bytes more : List ℕ) → BeginsWith c (size_of c) bytes → BeginsWith d used (bytes ++ more) → MayBegin end d.first → MayBegin end c.first
only_front end c d used bytes more here there may =
    subst (MayBegin end) (ap (λ (x : Chunk). x.first) (sym (same_begun c d (size_of c) used (bytes ++ more) (begins_still c (size_of c) bytes more here) there).0)) may

-- one fault is told
pub same_told : (f g : ChunkFault) → let told : Result Chunk ChunkFault = Err f in told ≡ Err g → f ≡ g
same_told f g e = cc

pub not_begun : (end : Option ℕ) (b : Bool) (first other : ℕ) → (IsTrue b ↔ MayBegin end first) → b ≡ false → first ≡ other → MayBegin end other → ⊥
not_begun end b first other told none same may =
    let is : b ≡ true = told.1 (subst (MayBegin end) (sym same) may) in
    absurd (let both : false ≡ true = sym none ∙ is in cc)

pub never_is : (b : Bool) (P : Type 0) → (IsTrue b ↔ P) → b ≡ false → P → ⊥
never_is b P told none p =
    let is : b ≡ true = told.1 p in
    absurd (let both : false ≡ true = sym none ∙ is in cc)
