-- What is found in bytes is the chunk with which they begin.
use Rattle.std.proofs.Common.{◌≡◌, ℕ, ◌+◌, ◌^◌, ◌<◌, ◌≤◌, Bool, true, false, cond, ◌&&◌, List, ◌++◌, length, take, drop, Some, None, Result, Ok, Err, ◌%◌, ◌/◌, refl, sym, ap, subst, ◌∙◌, append_assoc, arith}
use Rattle.std.specs.Bool.{Decides}
use Rattle.std.specs.List.{All}
use Rattle.std.proofs.lemmas.Bool.Decides.{Decides-and}
use Rattle.std.proofs.lemmas.List.{length-take-le, length-take, drop_at}
use Rattle.std.proofs.lemmas.List.{take-append-drop}
use Rattle.std.proofs.lemmas.List.Sums.{sum_by-le}
use Rattle.frame_wire.specs.Reading.{Spot, past}
use Rattle.frame_wire.specs.Fields.{u32_bytes, u64_bytes}
use Rattle.chunk_format.specs.declared.entry.Entry.{Entry}
use Rattle.chunk_format.specs.declared.entry.Entry.TheVariants.{Simple, Batch}
use Rattle.chunk_format.specs.declared.chunk.Chunk.{Chunk}
use Rattle.chunk_format.specs.declared.chunk.Header.{Header}
use Rattle.chunk_format.specs.declared.field.HeaderFault.{HeaderFault}
use Rattle.chunk_format.specs.Chunks.{IsEntry, entry_records, records_of, entries_bytes, head_bytes, header_bytes, header_of, chunk_bytes, IsChunk}
use Rattle.chunk_format.specs.ChunkFields.{header_at}
use Rattle.chunk_format.specs.Faults.{IsHeader, whole_len, BeginsWith}
use Rattle.chunk_format.specs.ReadBack.{chunk_at}
use Rattle.chunk_format.specs.ByName.{same_name}
use Rattle.chunk_format.proofs.NameLaws.{same_decides}
use Rattle.chunk_format.proofs.BackLaws.{back}
use Rattle.chunk_format.proofs.ChunkLaws.{first_fits, header_length, chunk_length}
use Rattle.chunk_format.proofs.TagLaws.{trailer_fits}
use Rattle.chunk_format.proofs.FieldLaws.{header_lawful}
use Rattle.chunk_search.specs.Finding.{is_chunk, if_begins, by_header, chunk_in}
use Rattle.chunk_search.proofs.Whole.{chunk_decides}

-- a number of four bytes is spelled as its lowest 32 bits
low_bytes : (n : ℕ) → u32_bytes (n % 4294967296) ≡ u32_bytes n
unfolding u32_bytes
low_bytes n =
    let first : n % 4294967296 / 16777216 % 256 ≡ n / 16777216 % 256 = omega arith in
    let second : n % 4294967296 / 65536 % 256 ≡ n / 65536 % 256 = omega arith in
    let third : n % 4294967296 / 256 % 256 ≡ n / 256 % 256 = omega arith in
    let fourth : n % 4294967296 % 256 ≡ n % 256 = omega arith in
    cc

-- ---- what is found

begun_decides : (c : Chunk) (bytes : List ℕ) → Decides (is_chunk c && same_name (chunk_bytes c) (take (length (chunk_bytes c)) bytes)) (IsChunk c × (chunk_bytes c ≡ take (length (chunk_bytes c)) bytes))
begun_decides c bytes = Decides-and (is_chunk c) _ (chunk_decides c) (same_decides (chunk_bytes c) (take (length (chunk_bytes c)) bytes))

-- all bytes that are asked for are there
taken_whole : (n : ℕ) (bytes : List ℕ) → length (take n bytes) ≡ n → n ≤ length bytes
taken_whole n bytes e = omega (arith, e, length-take n bytes)

begins_by : (c : Chunk) (bytes : List ℕ) → IsChunk c × (chunk_bytes c ≡ take (length (chunk_bytes c)) bytes) → BeginsWith c (length (chunk_bytes c)) bytes
begins_by c bytes begun =
    (taken_whole (length (chunk_bytes c)) bytes (sym (ap length begun.1)), record { is_chunk = begun.0; spelled = sym begun.1 })

if_some : (b : Bool) (d c : Chunk) → cond b (Some d) None ≡ Some c → (b ≡ true) × (d ≡ c)
if_some b d c e = elim b as (λ (x : Bool). cond x (Some d) None ≡ Some c → (x ≡ true) × (d ≡ c)) [ true ↦ λ e. (refl, cc) | false ↦ λ e. absurd (cc e) ] e

found_if : (bytes : List ℕ) (d c : Chunk) → if_begins bytes d ≡ Some c → (used : ℕ) × BeginsWith c used bytes
unfolding if_begins
found_if bytes d c e =
    let some = if_some (is_chunk d && same_name (chunk_bytes d) (take (length (chunk_bytes d)) bytes)) d c e in
    let begins = begins_by d bytes ((begun_decides d bytes).0 some.0) in
    (length (chunk_bytes d), subst (λ (x : Chunk). BeginsWith x (length (chunk_bytes d)) bytes) some.1 begins)

found_by : (bytes : List ℕ) (r : Result (Header × Spot) HeaderFault) (c : Chunk) → by_header bytes r ≡ Some c → (used : ℕ) × BeginsWith c used bytes
found_by bytes (Ok (h, behind)) c e = found_if bytes (chunk_at h (take (whole_len h) bytes)) c e
found_by bytes (Err fault) c e = absurd (cc e)

pub found : (bytes : List ℕ) (c : Chunk) → chunk_in bytes ≡ Some c → (used : ℕ) × BeginsWith c used bytes
unfolding chunk_in
found bytes c e = found_by bytes (header_at (record { at = 0; rest = bytes })) c e

-- ---- all is found

kept_if : (bytes : List ℕ) (c : Chunk) → IsChunk c → chunk_bytes c ≡ take (length (chunk_bytes c)) bytes → if_begins bytes c ≡ Some c
unfolding if_begins
kept_if bytes c is begins = ap (λ (b : Bool). cond b (Some c) None) ((begun_decides c bytes).1 (is, begins))

few_records : (x : Entry) → IsEntry x → entry_records x ≤ 65535
few_records (Simple body) f = omega arith
few_records (Batch c s r u body) f = let fits = f.2 in omega arith

records_fit : (c : Chunk) → IsChunk c → records_of c.entries < 2 ^ 32
records_fit c is =
    let most : All (λ (x : Entry). entry_records x ≤ 65535) c.entries = λ k d lt. few_records _ (is.each k d lt) in
    omega (arith, is.few, sum_by-le entry_records 65535 c.entries most)

-- the header of a chunk, its checksum as four bytes give it
abbrev seen_header : Chunk → Header
seen_header c = record (header_of c) { crc = (header_of c).crc % 4294967296 }

seen_fits : (c : Chunk) → IsChunk c → IsHeader (seen_header c)
seen_fits c is = record {
  entries = is.few;
  records = records_fit c is;
  stamp = is.stamp_fits;
  epoch = is.epoch_fits;
  first = first_fits c is;
  crc = omega arith;
  payload_len = let payload = is.payload in omega arith;
  trailer_len = trailer_fits c is;
}

abbrev spelled_with : Header → List ℕ → List ℕ
spelled_with h crc = head_bytes h ++ (u64_bytes h.epoch ++ (u64_bytes h.first ++ (crc ++ (u32_bytes h.payload_len ++ (u32_bytes h.trailer_len ++ u32_bytes 0)))))

seen_bytes : (c : Chunk) → header_bytes (seen_header c) ≡ header_bytes (header_of c)
unfolding header_bytes
seen_bytes c = ap (spelled_with (header_of c)) (low_bytes (header_of c).crc)

-- the header that bytes begin with is read
header_read : (c : Chunk) (rest bytes : List ℕ) → IsChunk c → bytes ≡ chunk_bytes c ++ rest → header_at (record { at = 0; rest = bytes }) ≡ Ok (seen_header c, past 48 (record { at = 0; rest = bytes }))
header_read c rest bytes is e =
    let h = seen_header c in
    let more = (entries_bytes c.entries ++ c.trailer) ++ rest in
    let parts : bytes ≡ header_bytes h ++ more = e ∙ append_assoc (header_bytes (header_of c)) (entries_bytes c.entries ++ c.trailer) rest ∙ ap (λ (l : List ℕ). l ++ more) (sym (seen_bytes c)) in
    let behind : drop 48 bytes ≡ more = ap (drop 48) parts ∙ drop_at (header_bytes h) more 48 (header_length h) in
    header_lawful.again (record { at = 0; rest = bytes }) h (past 48 (record { at = 0; rest = bytes }))
    (record { fits = seen_fits c is; parts = parts ∙ ap (λ (l : List ℕ). header_bytes h ++ l) (sym behind); moved = ap (λ (n : ℕ). 0 + n) (sym (header_length h)) })

pub all_found : (bytes : List ℕ) (c : Chunk) (used : ℕ) → BeginsWith c used bytes → chunk_in bytes ≡ Some c
unfolding chunk_in
all_found bytes c used begins =
    let is = begins.1.is_chunk in
    let spelled : take used bytes ≡ chunk_bytes c = begins.1.spelled in
    let long : length (chunk_bytes c) ≡ used = ap length (sym spelled) ∙ length-take-le used bytes begins.0 in
    let whole : whole_len (seen_header c) ≡ used = sym (chunk_length c) ∙ long in
    let parted : bytes ≡ chunk_bytes c ++ drop used bytes = sym (take-append-drop used bytes) ∙ ap (λ (l : List ℕ). l ++ drop used bytes) spelled in
    let back : chunk_at (seen_header c) (take (whole_len (seen_header c)) bytes) ≡ c =
    ap (λ (n : ℕ). chunk_at (header_of c) (take n bytes)) whole ∙ back (header_of c) (take used bytes) c begins.1 refl in
    ap (by_header bytes) (header_read c (drop used bytes) bytes is parted) ∙ ap (if_begins bytes) back
    ∙ kept_if bytes c is (sym spelled ∙ ap (λ (n : ℕ). take n bytes) (sym long))
