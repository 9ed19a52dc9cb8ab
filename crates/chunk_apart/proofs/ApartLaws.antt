-- A header and a payload behind it.
use Rattle.std.proofs.Common.{◌≡◌, ℕ, ◌+◌, ◌<◌, ◌≤◌, List, [], ◌++◌, length, take, drop, Ok, Err, sym, ap, ◌∙◌, arith, length-append, inl, inr}
use Rattle.std.proofs.lemmas.List.{drop_at}
use Rattle.chunk_format.specs.declared.entry.Entry.{Entry}
use Rattle.chunk_format.specs.declared.chunk.Header.{Header}
use Rattle.chunk_format.specs.declared.fault.ChunkFault.TheVariants.{Short}
use Rattle.chunk_format.specs.declared.decode.ReadChunk.{ReadChunk}
use Rattle.chunk_format.specs.declared.decode.ChunkError.{ChunkError}
use Rattle.chunk_format.specs.declared.decode.ChunkError.TheVariants.{Fault, Memory}
use Rattle.chunk_format.specs.Chunks.{header_bytes}
use Rattle.chunk_format.specs.Faults.{IsHeader, HeaderStands, whole_len, payload_of, trailer_of, PartsRight, ChunkWrong, BeginsWith}
use Rattle.chunk_format.specs.Reads.{Reads}
use Rattle.chunk_format.proofs.ChunkLaws.{header_length}
use Rattle.chunk_format.proofs.ChunkFound.{chunk_with, right_heads, parts_wrong}
use Rattle.chunk_format.proofs.ReadLaws.{heads_begins}
use Rattle.chunk_apart.specs.Apart.{ReadsApart, FailsParts}

-- a chunk that was decoded
pub decoded : (bytes : List ℕ) (read : ReadChunk) → Reads bytes (Ok read) → ReadsApart bytes (Ok read.chunk)
decoded bytes read is = (read.used, is)

pub not_decoded : (bytes : List ℕ) (error : ChunkError) → Reads bytes (Err error) → ReadsApart bytes (Err error)
not_decoded bytes (Fault fault) is = is
not_decoded bytes Memory is = tt

-- what stands behind the header
behind : (h : Header) (payload : List ℕ) → drop 48 (header_bytes h ++ payload) ≡ payload
behind h payload = drop_at (header_bytes h) payload 48 (header_length h)

stands_joined : (h : Header) (payload : List ℕ) → IsHeader h → HeaderStands h (header_bytes h ++ payload)
stands_joined h payload is = (is, ap (λ (l : List ℕ). header_bytes h ++ l) (sym (behind h payload)))

joined_length : (h : Header) (payload : List ℕ) → length (header_bytes h ++ payload) ≡ 48 + length payload
joined_length h payload = omega (arith, length-append (header_bytes h) payload, header_length h)

payload_there : (h : Header) (payload : List ℕ) → take h.payload_len payload ≡ payload_of h (header_bytes h ++ payload)
payload_there h payload = ap (take h.payload_len) (sym (behind h payload))

trailer_there : (h : Header) (bytes : List ℕ) → h.trailer_len ≡ 0 → [] ≡ trailer_of h bytes
trailer_there h bytes none = sym (ap (λ (n : ℕ). take n (drop (48 + h.payload_len) bytes)) none)

-- a payload that ends early
pub apart_short : (h : Header) (payload : List ℕ) (place : ℕ) → IsHeader h → h.trailer_len ≡ 0 → length payload < h.payload_len → place ≡ 48 + length payload → ChunkWrong (header_bytes h ++ payload) (Short place)
apart_short h payload place is none early here =
    let len = joined_length h payload in
    inr (h, stands_joined h payload is, inl (omega (arith, len, early, none), ap (λ (n : ℕ). Short n) (here ∙ sym len)))

-- what is wrong in the payload
pub apart_wrong : (h : Header) (payload part : List ℕ) (error : ChunkError) → IsHeader h → h.trailer_len ≡ 0 → h.payload_len ≤ length payload → part ≡ take h.payload_len payload → FailsParts h part error
    → ReadsApart (header_bytes h ++ payload) (Err error)
apart_wrong h payload part (Fault fault) is none long part_is wrong =
    let bytes = header_bytes h ++ payload in
    parts_wrong h bytes part [] fault (stands_joined h payload is) (omega (arith, joined_length h payload, long, none)) (part_is ∙ payload_there h payload) (trailer_there h bytes none) wrong
apart_wrong h payload part Memory is none long part_is wrong = tt

-- and a payload that is right
pub apart_right : (h : Header) (payload part : List ℕ) (entries : List Entry) → IsHeader h → h.trailer_len ≡ 0 → h.payload_len ≤ length payload → part ≡ take h.payload_len payload → PartsRight h part [] entries
    → BeginsWith (chunk_with h entries []) (whole_len h) (header_bytes h ++ payload)
apart_right h payload part entries is none long part_is right =
    let bytes = header_bytes h ++ payload in
    let there = part_is ∙ payload_there h payload in
    let trailer = trailer_there h bytes none in
    let heads = right_heads h bytes part [] entries (stands_joined h payload is) (omega (arith, joined_length h payload, long, none)) there trailer right in
    heads_begins h bytes part [] entries heads there trailer right.payload_right.0.are
