-- A view's bytes give back the chunk with which the bytes began.
use Rattle.std.proofs.Common.{◌≡◌, ℕ, ◌+◌, ◌^◌, ◌<◌, List, [], ◌++◌, length, take, get_or, Result, Ok, Err, MatchResult, refl, sym, ap, subst, ◌∙◌, append_assoc, arith, length-append}
use Rattle.std.proofs.lemmas.List.{append-nil, take_at}
use Rattle.chunk_format.specs.declared.entry.Entry.{Entry}
use Rattle.chunk_format.specs.declared.chunk.Header.{Header}
use Rattle.chunk_format.specs.declared.chunk.Chunk.{Chunk}
use Rattle.chunk_format.specs.declared.fault.ChunkFault.{ChunkFault}
use Rattle.chunk_format.specs.declared.decode.ReadChunk.{ReadChunk}
use Rattle.chunk_format.specs.declared.decode.ChunkError.{ChunkError}
use Rattle.chunk_format.specs.declared.decode.ChunkError.TheVariants.{Fault}
use Rattle.chunk_format.specs.Chunks.{entries_bytes, header_bytes, header_of, records_of, chunk_bytes}
use Rattle.chunk_format.specs.Faults.{whole_len, payload_of, trailer_of, SpellsEntries, ChunkWrong, BeginsWith}
use Rattle.chunk_format.proofs.ChunkLaws.{chunk_length, header_length}
use Rattle.chunk_format.proofs.ChunkOnly.{payload_at, chunk_entries}
use Rattle.chunk_format.proofs.ReadLaws.{only_chunk, told_chunk}
use Rattle.chunk_format.specs.ReadBack.{entries_at, chunk_at, IsViewed, AreLeft}
use Rattle.chunk_view.specs.Shown.{shown_from, shown_entries}

-- the parts of a view's bytes
pub record Parts (h : Header) (bytes : List ℕ) (c : Chunk) : Type 0 where
  pub len : length bytes ≡ whole_len h
  pub payload : payload_of h bytes ≡ entries_bytes c.entries
  pub trailer : trailer_of h bytes ≡ c.trailer

pub view_parts : (h : Header) (bytes : List ℕ) → IsViewed h bytes → Parts h bytes (chunk_at h bytes)
view_parts h bytes viewed =
    let c = chunk_at h bytes in
    let at = payload_at c [] bytes (viewed.0.spelled ∙ sym (append-nil (chunk_bytes c))) in
    record {
      len = ap length viewed.0.spelled ∙ chunk_length c ∙ sym (ap whole_len viewed.1);
      payload = ap (λ (g : Header). payload_of g bytes) viewed.1 ∙ at.0;
      trailer = refl;
    }

-- the bytes up to the trailer
pub view_delivered : (h : Header) (bytes : List ℕ) → IsViewed h bytes → take (48 + h.payload_len) bytes ≡ header_bytes (header_of (chunk_at h bytes)) ++ entries_bytes (chunk_at h bytes).entries
view_delivered h bytes viewed =
    let c = chunk_at h bytes in
    let head = header_bytes (header_of c) in
    let payload = entries_bytes c.entries in
    let len : length (head ++ payload) ≡ 48 + h.payload_len = omega (arith, length-append head payload, header_length (header_of c), ap (λ (g : Header). g.payload_len) viewed.1) in
    ap (take (48 + h.payload_len)) (viewed.0.spelled ∙ sym (append_assoc head payload c.trailer)) ∙ take_at (head ++ payload) c.trailer (48 + h.payload_len) len

-- all entries of a view are left at first
pub record AllLeft (h : Header) (payload : List ℕ) (c : Chunk) : Type 0 where
  pub left : AreLeft h.entries h.first payload
  pub all : shown_from h.first (entries_at h.entries payload) ≡ shown_entries c

pub all_left : (h : Header) (bytes payload : List ℕ) → IsViewed h bytes → payload ≡ entries_bytes (chunk_at h bytes).entries → AllLeft h payload (chunk_at h bytes)
all_left h bytes payload viewed is =
    let c = chunk_at h bytes in
    let parts = view_parts h bytes viewed in
    let payload_is : payload ≡ payload_of h bytes = is ∙ sym parts.payload in
    let same : entries_at h.entries payload ≡ c.entries = ap (entries_at h.entries) payload_is in
    let count : length c.entries ≡ h.entries = sym (ap (λ (g : Header). g.entries) viewed.1) in
    let spells : SpellsEntries h.entries (entries_bytes c.entries) c.entries = subst (λ (n : ℕ). SpellsEntries n (entries_bytes c.entries) c.entries) count (chunk_entries c viewed.0.is_chunk) in
    let here : SpellsEntries h.entries payload c.entries = subst (λ (l : List ℕ). SpellsEntries h.entries l c.entries) (sym is) spells in
    let last : c.first + records_of c.entries < 2 ^ 64 = viewed.0.is_chunk.last in
    record {
      left = record {
        are = subst (λ (es : List Entry). SpellsEntries h.entries payload es) (sym same) here;
        last = subst (λ (es : List Entry). h.first + records_of es < 2 ^ 64) (sym same) last;
      };
      all = ap (shown_from h.first) same;
    }

-- no other chunk begins the bytes, and where a check fails that fault is told
pub only_view : (bytes : List ℕ) → ((i : ℕ) → get_or bytes i 0 < 256) → (result : Result Chunk ChunkFault) → MatchResult result (λ view. (used : ℕ) × BeginsWith view used bytes) (ChunkWrong bytes)
    → (c : Chunk) (used : ℕ) → BeginsWith c used bytes → MatchResult result (λ view. view ≡ c) (λ _. ⊥)
only_view bytes each (Ok view) found c used begins = (only_chunk bytes each (Ok (record { chunk = view; used = found.0 })) found.1 c used begins).0
only_view bytes each (Err fault) found c used begins = only_chunk bytes each (Err (Fault fault)) found c used begins

not_read : (read : ReadChunk) (fault : ChunkError) → Ok read ≡ Err fault → ⊥
not_read read fault e = cc

same_fault : (f g : ChunkFault) → let told : Result ReadChunk ChunkError = Err (Fault f) in told ≡ Err (Fault g) → f ≡ g
same_fault f g e = cc

pub told_view : (bytes : List ℕ) → ((i : ℕ) → get_or bytes i 0 < 256) → (result : Result Chunk ChunkFault) → MatchResult result (λ view. (used : ℕ) × BeginsWith view used bytes) (ChunkWrong bytes)
    → (fault : ChunkFault) → ChunkWrong bytes fault → result ≡ Err fault
told_view bytes each (Ok view) found fault wrong =
    let read : ReadChunk = record { chunk = view; used = found.0 } in
    absurd (not_read read (Fault fault) (told_chunk bytes each (Ok read) found.1 fault wrong))
told_view bytes each (Err other) found fault wrong = ap (λ (f : ChunkFault). Err f) (same_fault other fault (told_chunk bytes each (Err (Fault other)) found fault wrong))
