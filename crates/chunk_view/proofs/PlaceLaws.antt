-- Where an entry and its body stand in the bytes of a chunk.
use Rattle.std.proofs.Common.{◌≡◌, ℕ, zero, suc, ◌+◌, List, [], ◌∷◌, ◌++◌, length, take, drop, Option, Some, None, refl, sym, ap, subst, ◌∙◌, append_assoc, arith, length-append}
use Rattle.std.specs.Prelude.{slice_get, IsSomeAnd}
use Rattle.frame_wire.specs.Fields.{u8_bytes, u16_bytes, u32_bytes}
use Rattle.frame_wire.proofs.FieldLaws.{u8_length, u16_length, u32_length}
use Rattle.chunk_format.specs.declared.entry.Entry.{Entry}
use Rattle.chunk_format.specs.declared.entry.Entry.TheVariants.{Simple, Batch}
use Rattle.chunk_format.specs.declared.chunk.Chunk.{Chunk}
use Rattle.chunk_format.specs.Chunks.{batch_code, entry_bytes, entries_bytes, header_bytes, header_of, chunk_bytes}
use Rattle.chunk_format.proofs.ChunkLaws.{header_length, part_at}
use Rattle.chunk_view.specs.Shown.{EntryShown, shown, entry_body, head_len, entry_place, entry_offset, StandsAt}

stands_at : (front part back bytes : List ℕ) (at : ℕ) → length front ≡ at → bytes ≡ front ++ (part ++ back) → StandsAt bytes at part
stands_at front part back bytes at len e =
    (omega (arith, len, ap length e, length-append front (part ++ back), length-append part back), ap (λ (l : List ℕ). take (length part) (drop at l)) e ∙ part_at front part back at (length part) len refl)

-- an entry among others
record Among (entries : List Entry) (k : ℕ) (entry : Entry) : Type 0 where
  back : List ℕ
  parts : entries_bytes entries ≡ entries_bytes (take k entries) ++ (entry_bytes entry ++ back)

among : (entries : List Entry) (k : ℕ) (entry : Entry) → slice_get entries k ≡ Some entry → Among entries k entry
among [] k entry there = absurd cc
among (e ∷ entries) zero entry there = record { back = entries_bytes entries; parts = let same : e ≡ entry = cc in ap (λ (x : Entry). entry_bytes x ++ entries_bytes entries) same }
among (e ∷ entries) (suc k) entry there =
    let more = among entries k entry there in
    record { back = more.back; parts = ap (λ (l : List ℕ). entry_bytes e ++ l) more.parts ∙ sym (append_assoc (entry_bytes e) (entries_bytes (take k entries)) (entry_bytes entry ++ more.back)) }

-- an entry's bytes before its body
entry_head : Entry → List ℕ
entry_head (Simple body) = u32_bytes (length body)
entry_head (Batch c s r u body) = u8_bytes (batch_code c s) ++ (u16_bytes r ++ (u32_bytes u ++ u32_bytes (length body)))

head_parts : (entry : Entry) → entry_bytes entry ≡ entry_head entry ++ entry_body entry
unfolding entry_head
head_parts (Simple body) = refl
head_parts (Batch c s r u body) =
    let n = u32_bytes (length body) in
    sym (append_assoc (u8_bytes (batch_code c s)) (u16_bytes r ++ (u32_bytes u ++ n)) body
    ∙ ap (λ (l : List ℕ). u8_bytes (batch_code c s) ++ l) (append_assoc (u16_bytes r) (u32_bytes u ++ n) body ∙ ap (λ (l : List ℕ). u16_bytes r ++ l) (append_assoc (u32_bytes u) n body)))

length-entry_head : (entry : Entry) → length (entry_head entry) ≡ head_len entry
unfolding entry_head
length-entry_head (Simple body) = u32_length (length body)
length-entry_head (Batch c s r u body) =
    let n = u32_bytes (length body) in
    omega (
      arith,
      length-append (u8_bytes (batch_code c s)) (u16_bytes r ++ (u32_bytes u ++ n)),
      length-append (u16_bytes r) (u32_bytes u ++ n),
      length-append (u32_bytes u) n,
      u8_length (batch_code c s),
      u16_length r,
      u32_length u,
      u32_length (length body),
    )

-- a chunk's bytes around one of its entries
record Around (c : Chunk) (k : ℕ) (entry : Entry) : Type 0 where
  front : List ℕ
  back : List ℕ
  len : length front ≡ entry_place c k
  parts : chunk_bytes c ≡ front ++ (entry_bytes entry ++ back)

around : (c : Chunk) (k : ℕ) (entry : Entry) → slice_get c.entries k ≡ Some entry → Around c k entry
around c k entry there =
    let header = header_bytes (header_of c) in
    let before = entries_bytes (take k c.entries) in
    let in_payload = among c.entries k entry there in
    let payload : entries_bytes c.entries ++ c.trailer ≡ before ++ (entry_bytes entry ++ (in_payload.back ++ c.trailer)) =
    ap (λ (l : List ℕ). l ++ c.trailer) in_payload.parts ∙ append_assoc before (entry_bytes entry ++ in_payload.back) c.trailer ∙ ap (λ (l : List ℕ). before ++ l) (append_assoc (entry_bytes entry) in_payload.back c.trailer) in
    record {
      front = header ++ before;
      back = in_payload.back ++ c.trailer;
      len = omega (arith, length-append header before, header_length (header_of c));
      parts = ap (λ (l : List ℕ). header ++ l) payload ∙ sym (append_assoc header before (entry_bytes entry ++ (in_payload.back ++ c.trailer)));
    }

-- an entry that is shown stands at its place
spelling_at : (c : Chunk) (k : ℕ) (entry : Entry) → slice_get c.entries k ≡ Some entry → StandsAt (chunk_bytes c) (entry_place c k) (entry_bytes entry)
spelling_at c k entry there = let a = around c k entry there in stands_at a.front (entry_bytes entry) a.back (chunk_bytes c) (entry_place c k) a.len a.parts

-- and its body behind its head
body_at : (c : Chunk) (k : ℕ) (entry : Entry) → slice_get c.entries k ≡ Some entry → StandsAt (chunk_bytes c) (entry_place c k + head_len entry) (entry_body entry)
body_at c k entry there =
    let a = around c k entry there in
    let head = entry_head entry in
    let body = entry_body entry in
    let len : length (a.front ++ head) ≡ entry_place c k + head_len entry = omega (arith, length-append a.front head, a.len, length-entry_head entry) in
    let parted : chunk_bytes c ≡ (a.front ++ head) ++ (body ++ a.back) =
    a.parts ∙ ap (λ (l : List ℕ). a.front ++ (l ++ a.back)) (head_parts entry) ∙ ap (λ (l : List ℕ). a.front ++ l) (append_assoc head body a.back) ∙ sym (append_assoc a.front head (body ++ a.back)) in
    stands_at (a.front ++ head) body a.back (chunk_bytes c) (entry_place c k + head_len entry) len parted

at_place : (c : Chunk) (k : ℕ) (s : EntryShown) (found : Option Entry) → slice_get c.entries k ≡ found → IsSomeAnd found (λ (entry : Entry). s ≡ shown (entry_offset c k) entry) → StandsAt (chunk_bytes c) (entry_place c k) s.spelling
at_place c k s None there is = absurd is
at_place c k s (Some entry) there is =
    subst (λ (l : List ℕ). StandsAt (chunk_bytes c) (entry_place c k) l) (sym (ap (λ (x : EntryShown). x.spelling) is)) (spelling_at c k entry there)

pub shown_at_place : (c : Chunk) (k : ℕ) (s : EntryShown) → IsSomeAnd (slice_get c.entries k) (λ (entry : Entry). s ≡ shown (entry_offset c k) entry) → StandsAt (chunk_bytes c) (entry_place c k) s.spelling
shown_at_place c k s is = at_place c k s (slice_get c.entries k) refl is

body_place : (c : Chunk) (k : ℕ) (s : EntryShown) (found : Option Entry) → slice_get c.entries k ≡ found → IsSomeAnd found (λ (entry : Entry). s ≡ shown (entry_offset c k) entry)
    → IsSomeAnd found (λ (entry : Entry). StandsAt (chunk_bytes c) (entry_place c k + head_len entry) s.body)
body_place c k s None there is = absurd is
body_place c k s (Some entry) there is =
    subst (λ (l : List ℕ). StandsAt (chunk_bytes c) (entry_place c k + head_len entry) l) (sym (ap (λ (x : EntryShown). x.body) is)) (body_at c k entry there)

pub body_at_place : (c : Chunk) (k : ℕ) (s : EntryShown) → IsSomeAnd (slice_get c.entries k) (λ (entry : Entry). s ≡ shown (entry_offset c k) entry)
    → IsSomeAnd (slice_get c.entries k) (λ (entry : Entry). StandsAt (chunk_bytes c) (entry_place c k + head_len entry) s.body)
body_at_place c k s is = body_place c k s (slice_get c.entries k) refl is
