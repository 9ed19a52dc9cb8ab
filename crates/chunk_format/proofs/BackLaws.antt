-- All bytes of a chunk give back the chunk.
use Rattle.std.proofs.Common.{◌≡◌, ℕ, List, [], refl, sym, ap, subst, ◌∙◌, length, take}
use Rattle.std.proofs.lemmas.List.{append-nil}
use Rattle.chunk_format.specs.declared.entry.Entry.{Entry}
use Rattle.chunk_format.specs.declared.chunk.Header.{Header}
use Rattle.chunk_format.specs.declared.chunk.Chunk.{Chunk}
use Rattle.chunk_format.specs.Chunks.{header_of, chunk_bytes, IsChunk, ChunkSpells}
use Rattle.chunk_format.specs.Faults.{whole_len, payload_of, trailer_of, BeginsWith, HeadsChunk}
use Rattle.chunk_format.proofs.ChunkFound.{chunk_with}
use Rattle.chunk_format.proofs.ChunkOnly.{payload_at}
use Rattle.chunk_format.specs.ReadBack.{entries_at, chunk_at, IsViewed}
use Rattle.chunk_format.proofs.FrontLaws.{entries_back}

chunk_back : (c : Chunk) (bytes : List ℕ) → IsChunk c → bytes ≡ chunk_bytes c → chunk_at (header_of c) bytes ≡ c
chunk_back c bytes is spelled =
    let at = payload_at c [] bytes (spelled ∙ sym (append-nil (chunk_bytes c))) in
    let entries : entries_at (length c.entries) (payload_of (header_of c) bytes) ≡ c.entries = entries_back (length c.entries) c.entries (payload_of (header_of c) bytes) refl is.each at.0 in
    ap (λ (es : List Entry). chunk_with (header_of c) es (trailer_of (header_of c) bytes)) entries ∙ ap (λ (l : List ℕ). chunk_with (header_of c) c.entries l) at.1

-- the chunk that a header and bytes give back
pub back : (h : Header) (bytes : List ℕ) (c : Chunk) → ChunkSpells c bytes → h ≡ header_of c → chunk_at h bytes ≡ c
back h bytes c spells heads = ap (λ (g : Header). chunk_at g bytes) heads ∙ chunk_back c bytes spells.is_chunk spells.spelled

pub viewed_whole : (h : Header) (bytes : List ℕ) (c : Chunk) → ChunkSpells c bytes → h ≡ header_of c → IsViewed h bytes
viewed_whole h bytes c spells heads =
    let same : chunk_at h bytes ≡ c = back h bytes c spells heads in
    (subst (λ (x : Chunk). ChunkSpells x bytes) (sym same) spells, heads ∙ ap header_of (sym same))

-- the bytes of a chunk with which others begin
pub record Front (h : Header) (bytes whole : List ℕ) : Type 0 where
  pub viewed : IsViewed h whole
  pub begins : BeginsWith (chunk_at h whole) (whole_len h) bytes

pub front : (h : Header) (bytes whole : List ℕ) → HeadsChunk h bytes → whole ≡ take (whole_len h) bytes → Front h bytes whole
front h bytes whole heads is =
    let c = heads.0 in
    let spells : ChunkSpells c whole = subst (λ (l : List ℕ). ChunkSpells c l) (sym is) heads.1.1 in
    let same : chunk_at h whole ≡ c = back h whole c spells heads.2 in
    record {
      viewed = viewed_whole h whole c spells heads.2;
      begins = subst (λ (x : Chunk). BeginsWith x (whole_len h) bytes) (sym same) heads.1;
    }
