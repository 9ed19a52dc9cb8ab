-- The parts of a stored chunk's bytes, and the body of its one entry.
use Rattle.std.proofs.Common.{◌≡◌, ℕ, List, [], ◌∷◌, length, sym, ap, subst, ◌∙◌}
use Rattle.std.proofs.lemmas.List.{append-nil}
use Rattle.chunk_format.specs.declared.entry.Entry.{Entry}
use Rattle.chunk_format.specs.declared.entry.Entry.TheVariants.{Simple}
use Rattle.chunk_format.specs.declared.chunk.Header.{Header}
use Rattle.chunk_format.specs.declared.chunk.Chunk.{Chunk}
use Rattle.chunk_format.specs.Chunks.{entries_bytes, header_of, chunk_bytes, IsChunk, IsOneSimple, ChunkSpells}
use Rattle.chunk_format.specs.Faults.{SpellsEntries, whole_len, payload_of, trailer_of}
use Rattle.chunk_format.proofs.ChunkLaws.{chunk_length}
use Rattle.chunk_format.proofs.ChunkOnly.{payload_at, chunk_entries}

pub parts_len : (c : Chunk) (h : Header) (bytes : List ℕ) → h ≡ header_of c → ChunkSpells c bytes → length bytes ≡ whole_len h
parts_len c h bytes heads spells = ap length spells.spelled ∙ chunk_length c ∙ sym (ap whole_len heads)

pub payload_is : (c : Chunk) (h : Header) (bytes : List ℕ) → h ≡ header_of c → ChunkSpells c bytes → payload_of h bytes ≡ entries_bytes c.entries
payload_is c h bytes heads spells = ap (λ (g : Header). payload_of g bytes) heads ∙ (payload_at c [] bytes (spells.spelled ∙ sym (append-nil (chunk_bytes c)))).0

pub trailer_is : (c : Chunk) (h : Header) (bytes : List ℕ) → h ≡ header_of c → ChunkSpells c bytes → trailer_of h bytes ≡ c.trailer
trailer_is c h bytes heads spells = ap (λ (g : Header). trailer_of g bytes) heads ∙ (payload_at c [] bytes (spells.spelled ∙ sym (append-nil (chunk_bytes c)))).1

same_body : (a b : List ℕ) → let one : List Entry = Simple a ∷ [] in one ≡ Simple b ∷ [] → a ≡ b
same_body a b e = cc

pub one_body : (all : List Entry) (a b : List ℕ) → IsOneSimple all a → IsOneSimple all b → a ≡ b
one_body all a b first second = same_body a b (sym first ∙ second)

-- the payload of a chunk of one simple entry
pub one_spelled : (c : Chunk) (payload body : List ℕ) → IsChunk c → payload ≡ entries_bytes c.entries → IsOneSimple c.entries body → SpellsEntries 1 payload c.entries
one_spelled c payload body is payload_is one =
    subst (λ (l : List ℕ). SpellsEntries 1 l c.entries) (sym payload_is) (subst (λ (n : ℕ). SpellsEntries n (entries_bytes c.entries) c.entries) (ap length one) (chunk_entries c is))
