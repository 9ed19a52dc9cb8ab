-- The chunk that is read is the one that begins the bytes.
use Rattle.std.proofs.Common.{◌≡◌, ℕ, ◌+◌, ◌-◌, ◌<◌, List, [], ◌∷◌, ◌++◌, length, get_or, take, drop, Result, Ok, Err, MatchResult, refl, sym, ap, subst, ◌∙◌, arith, length-append, inl}
use Rattle.std.specs.List.{flat_map, All}
use Rattle.std.proofs.lemmas.List.{append-nil, take_rest, take-append-drop, length-take-le}
use Rattle.std.proofs.lemmas.List.Elements.{All-head, All-tail}
use Rattle.chunk_format.specs.declared.entry.Entry.{Entry}
use Rattle.chunk_format.specs.declared.chunk.Header.{Header}
use Rattle.chunk_format.specs.declared.chunk.Chunk.{Chunk}
use Rattle.chunk_format.specs.declared.fault.ChunkFault.{ChunkFault}
use Rattle.chunk_format.specs.declared.decode.ReadChunk.{ReadChunk}
use Rattle.chunk_format.specs.declared.decode.ChunkError.{ChunkError}
use Rattle.chunk_format.specs.declared.decode.ChunkError.TheVariants.{Fault, Memory}
use Rattle.chunk_format.specs.declared.stored.ReadStored.{ReadStored}
use Rattle.chunk_format.specs.Items.{NoneAtFront}
use Rattle.chunk_format.specs.Tags as tags
use Rattle.chunk_format.specs.Chunks.{entry_bytes, IsEntry, entries_bytes, header_of, chunk_bytes}
use Rattle.chunk_format.specs.Faults.{HeaderStands, HeaderWrong, whole_len, payload_of, trailer_of, IsChunkEntry, AreEntries, SpellsEntries, ChunkWrong, BeginsWith, HeadsChunk}
use Rattle.chunk_format.specs.Reads.{Reads, ReadsThis, as_read}
use Rattle.chunk_format.proofs.ItemLaws.{behind_front, same_items}
use Rattle.chunk_format.proofs.Codes.{entry_code}
use Rattle.chunk_format.proofs.Gone.{Gone, gone_start, gone_more, gone_more_front, limited_closed}
use Rattle.chunk_format.proofs.EntryLaws.{chunk_entry_code}
use Rattle.chunk_format.proofs.ChunkFound.{chunk_with}
use Rattle.chunk_format.proofs.ChunkOnly.{one_chunk, spelled_not_wrong, chunk_entries, payload_at, header_not_wrong}
use Rattle.chunk_format.proofs.HeaderLaws.{header_same}
use Rattle.chunk_format.proofs.OneFault.{one_fault}

-- a chunk that begins the bytes, as an equation
begun : (c : Chunk) (used : ℕ) (bytes : List ℕ) → BeginsWith c used bytes → (bytes ≡ chunk_bytes c ++ drop used bytes) × (used ≡ length (chunk_bytes c))
begun c used bytes begins =
    (sym (take-append-drop used bytes) ∙ ap (λ (l : List ℕ). l ++ drop used bytes) begins.1.spelled, sym (length-take-le used bytes begins.0) ∙ ap length begins.1.spelled)

-- bytes begin with one chunk alone
pub same_begun : (c d : Chunk) (n m : ℕ) (bytes : List ℕ) → BeginsWith c n bytes → BeginsWith d m bytes → (c ≡ d) × (n ≡ m)
same_begun c d n m bytes p q =
    let b = begun c n bytes p in
    let e = begun d m bytes q in
    let same = one_chunk c d (drop n bytes) (drop m bytes) p.1.is_chunk q.1.is_chunk (sym b.0 ∙ e.0) in
    (same.0, b.1 ∙ ap (λ (x : Chunk). length (chunk_bytes x)) same.0 ∙ sym e.1)

pub only_header : (bytes : List ℕ) → ((i : ℕ) → get_or bytes i 0 < 256) → (result : Result Header ChunkFault) → MatchResult result (λ h. HeadsChunk h bytes) (ChunkWrong bytes)
    → (c : Chunk) (used : ℕ) → BeginsWith c used bytes → MatchResult result (λ h. (h ≡ header_of c) × (whole_len h ≡ used)) (λ _. ⊥)
only_header bytes each (Ok h) found c used begins =
    let same = same_begun c found.0 used (whole_len h) bytes begins found.1 in
    (found.2 ∙ ap header_of (sym same.0), sym same.1)
only_header bytes each (Err fault) wrong c used begins = spelled_not_wrong fault c (drop used bytes) bytes each begins.1.is_chunk (begun c used bytes begins).0 wrong

pub only_chunk : (bytes : List ℕ) → ((i : ℕ) → get_or bytes i 0 < 256) → (result : Result ReadChunk ChunkError) → Reads bytes result → (c : Chunk) (used : ℕ) → BeginsWith c used bytes → ReadsThis c used result
only_chunk bytes each (Ok read) found c used begins =
    let same = same_begun read.chunk c read.used used bytes found begins in (same.0, same.1)
only_chunk bytes each (Err (Fault fault)) wrong c used begins = spelled_not_wrong fault c (drop used bytes) bytes each begins.1.is_chunk (begun c used bytes begins).0 wrong
only_chunk bytes each (Err Memory) free c used begins = tt

begun_not_wrong : (fault : ChunkFault) (c : Chunk) (used : ℕ) (bytes : List ℕ) → ((i : ℕ) → get_or bytes i 0 < 256) → BeginsWith c used bytes → ChunkWrong bytes fault → ⊥
begun_not_wrong fault c used bytes each begins wrong = spelled_not_wrong fault c (drop used bytes) bytes each begins.1.is_chunk (begun c used bytes begins).0 wrong

-- where a check fails, that fault is told
pub told_header : (bytes : List ℕ) → ((i : ℕ) → get_or bytes i 0 < 256) → (result : Result Header ChunkFault) → MatchResult result (λ h. HeadsChunk h bytes) (ChunkWrong bytes) → (fault : ChunkFault) → ChunkWrong bytes fault → result ≡ Err fault
told_header bytes each (Ok h) found fault wrong =
    let b = begun found.0 (whole_len h) bytes found.1 in
    absurd (spelled_not_wrong fault found.0 (drop (whole_len h) bytes) bytes each found.1.1.is_chunk b.0 wrong)
told_header bytes each (Err other) found fault wrong = ap (λ (f : ChunkFault). Err f) (one_fault bytes other fault found wrong)

pub told_chunk : (bytes : List ℕ) → ((i : ℕ) → get_or bytes i 0 < 256) → (result : Result ReadChunk ChunkError) → Reads bytes result → (fault : ChunkFault) → ChunkWrong bytes fault → result ≡ Err (Fault fault)
told_chunk bytes each (Ok read) found fault wrong = absurd (begun_not_wrong fault read.chunk read.used bytes each found wrong)
told_chunk bytes each (Err (Fault other)) found fault wrong = ap (λ (f : ChunkFault). Err (Fault f)) (one_fault bytes other fault found wrong)
told_chunk bytes each (Err Memory) found fault wrong = absurd (begun_not_wrong fault found.0 found.1 bytes each found.2 wrong)

same_error : (result : Result ReadStored ChunkError) (error : ChunkError) → as_read result ≡ Err error → result ≡ Err error
same_error (Ok read) error e = cc
same_error (Err other) error e = let same : other ≡ error = cc in ap (λ (x : ChunkError). Err x) same

pub told_stored : (bytes : List ℕ) → ((i : ℕ) → get_or bytes i 0 < 256) → (result : Result ReadStored ChunkError) → Reads bytes (as_read result) → (fault : ChunkFault) → ChunkWrong bytes fault → result ≡ Err (Fault fault)
told_stored bytes each result found fault wrong = same_error result (Fault fault) (told_chunk bytes each (as_read result) found fault wrong)

-- the header that stands at the front is read, and what is wrong in it is told
pub reads_header : (bytes : List ℕ) (result : Result Header ChunkFault) → MatchResult result (λ h. HeaderStands h bytes) (HeaderWrong bytes) → (h : Header) → HeaderStands h bytes → result ≡ Ok h
reads_header bytes (Ok g) found h stands = ap (λ (x : Header). Ok x) (header_same g h (drop 48 bytes) (drop 48 bytes) found.0 stands.0 (sym found.1 ∙ stands.1)).0
reads_header bytes (Err fault) found h stands = absurd (header_not_wrong fault h (drop 48 bytes) bytes stands.1 found)

pub tells_header : (bytes : List ℕ) (result : Result Header ChunkFault) → MatchResult result (λ h. HeaderStands h bytes) (HeaderWrong bytes) → (fault : ChunkFault) → HeaderWrong bytes fault → result ≡ Err fault
tells_header bytes (Ok h) found fault wrong = absurd (header_not_wrong fault h (drop 48 bytes) bytes found.1 wrong)
tells_header bytes (Err other) found fault wrong = ap (λ (f : ChunkFault). Err f) (one_fault bytes other fault (inl found) (inl wrong))

-- ---- the entries of a payload that is known to be entries

-- what is behind so many of them
behind : (n count at : ℕ) (payload : List ℕ) (items : List Entry) → SpellsEntries n payload items → (gone : Gone entry_bytes IsChunkEntry payload count at)
    → (back : List Entry) × (items ≡ gone.front ++ back) × (drop at payload ≡ flat_map entry_bytes back)
behind n count at payload items are gone =
    behind_front entry_bytes IsChunkEntry chunk_entry_code gone.front items (drop at payload) gone.each are.right.0 (sym are.spelled ∙ gone.parts)

pub record Next (left : List ℕ) : Type 0 where
  pub entry : Entry
  pub right : IsChunkEntry entry
  pub more : List ℕ
  pub stands : left ≡ entry_bytes entry ++ more

all_behind : (front : List Entry) (z : Entry) (back : List Entry) → All IsChunkEntry (front ++ z ∷ back) → IsChunkEntry z
all_behind [] z back all = All-head IsChunkEntry z back all
all_behind (y ∷ front) z back all = all_behind front z back (All-tail IsChunkEntry y (front ++ z ∷ back) all)

next_of : (n count : ℕ) (left : List ℕ) (items front back : List Entry) → length items ≡ n → length front ≡ count → count < n → All IsChunkEntry items → items ≡ front ++ back → left ≡ flat_map entry_bytes back → Next left
next_of n count left items front [] all some less each is stands = absurd (omega (arith, ap length (is ∙ append-nil front)))
next_of n count left items front (z ∷ back) all some less each is stands =
    let right : All IsChunkEntry (front ++ z ∷ back) = subst (All IsChunkEntry) is each in
    record { entry = z; right = all_behind front z back right; more = flat_map entry_bytes back; stands = stands }

pub next_entry : (n count at : ℕ) (payload : List ℕ) (items : List Entry) → SpellsEntries n payload items → Gone entry_bytes IsChunkEntry payload count at → count < n → Next (drop at payload)
next_entry n count at payload items are gone less =
    let b = behind n count at payload items are gone in
    next_of n count (drop at payload) items gone.front b.0 are.whole gone.counted less are.right.0 b.1 b.2

-- one stands there
pub some_entry : (n count at : ℕ) (payload left : List ℕ) (items : List Entry) → SpellsEntries n payload items → Gone entry_bytes IsChunkEntry payload count at → count < n
    → left ≡ take (length payload - at) (drop at payload) → NoneAtFront entry_bytes IsEntry left → ⊥
some_entry n count at payload left items are gone less is none =
    let next = next_entry n count at payload items are gone less in
    none next.entry next.more next.right.0 (is ∙ take_rest payload at ∙ next.stands)

-- the entries that were taken so far
abbrev pub Taken : List ℕ → ℕ → ℕ → List Entry → Type 0
Taken payload count at row = (gone : Gone entry_bytes IsChunkEntry payload count at) × (gone.front ≡ row)

pub taken_start : (payload : List ℕ) → Taken payload 0 0 []
unfolding gone_start
taken_start payload = (gone_start entry_bytes IsChunkEntry payload, refl)

pub taken_more : (n count at len : ℕ) (payload left : List ℕ) (items row : List Entry) (x : Entry) → SpellsEntries n payload items → Taken payload count at row → count < n
    → left ≡ take (length payload - at) (drop at payload) → IsEntry x → left ≡ entry_bytes x ++ drop len left → len ≡ length (entry_bytes x) → Taken payload (count + 1) (at + len) (row ++ x ∷ [])
taken_more n count at len payload left items row x are taken less is right stands long =
    let next = next_entry n count at payload items are taken.0 less in
    let same = entry_code.one next.entry x next.more (drop len left) next.right.0 right (sym next.stands ∙ sym (is ∙ take_rest payload at) ∙ stands) in
    let chunk_entry : IsChunkEntry x = subst IsChunkEntry same.0 next.right in (
      gone_more entry_bytes IsChunkEntry payload count at taken.0 x len left is chunk_entry stands long,
      gone_more_front entry_bytes IsChunkEntry payload count at taken.0 x len left is chunk_entry stands long ∙ ap (λ (es : List Entry). es ++ x ∷ []) taken.1,
    )

nothing_behind : (items front back : List Entry) → items ≡ front ++ back → length front ≡ length items → items ≡ front
nothing_behind items front [] is len = is ∙ append-nil front
nothing_behind items front (z ∷ back) is len = absurd (omega (arith, ap length is, length-append front (z ∷ back)))

pub taken_whole : (n at : ℕ) (payload : List ℕ) (items row : List Entry) → SpellsEntries n payload items → Taken payload n at row → SpellsEntries n payload row
taken_whole n at payload items row are taken =
    let b = behind n n at payload items are taken.0 in
    let same : items ≡ row = nothing_behind items taken.0.front b.0 b.1 (taken.0.counted ∙ sym are.whole) ∙ taken.1 in
    subst (SpellsEntries n payload) same are

-- ---- the chunk of a header

heads_mine : (h : Header) (bytes payload : List ℕ) (heads : HeadsChunk h bytes) → payload ≡ payload_of h bytes → SpellsEntries h.entries payload heads.0.entries
heads_mine h bytes payload heads is =
    let c = heads.0 in
    let at = payload_at c (drop (whole_len h) bytes) bytes (begun c (whole_len h) bytes heads.1).0 in
    let payload_is : payload ≡ entries_bytes c.entries = is ∙ ap (λ (g : Header). payload_of g bytes) heads.2 ∙ at.0 in
    let count : length c.entries ≡ h.entries = sym (ap (λ (g : Header). g.entries) heads.2) in
    let mine = subst (λ (n : ℕ). SpellsEntries n (entries_bytes c.entries) c.entries) count (chunk_entries c heads.1.1.is_chunk) in
    subst (λ (l : List ℕ). SpellsEntries h.entries l c.entries) (sym payload_is) mine

pub heads_entries : (h : Header) (bytes payload : List ℕ) → HeadsChunk h bytes → payload ≡ payload_of h bytes → (entries : List Entry) × SpellsEntries h.entries payload entries
heads_entries h bytes payload heads is = (heads.0.entries, heads_mine h bytes payload heads is)

pub heads_begins : (h : Header) (bytes payload trailer : List ℕ) (entries : List Entry) → HeadsChunk h bytes → payload ≡ payload_of h bytes → trailer ≡ trailer_of h bytes → SpellsEntries h.entries payload entries
    → BeginsWith (chunk_with h entries trailer) (whole_len h) bytes
heads_begins h bytes payload trailer entries heads payload_is trailer_is are =
    let c = heads.0 in
    let at = payload_at c (drop (whole_len h) bytes) bytes (begun c (whole_len h) bytes heads.1).0 in
    let trailers : trailer ≡ c.trailer = trailer_is ∙ ap (λ (g : Header). trailer_of g bytes) heads.2 ∙ at.1 in
    let same : entries ≡ c.entries = same_items entry_bytes IsChunkEntry (AreEntries h.entries) (tags.Count h.entries) chunk_entry_code (limited_closed IsChunkEntry h.entries) payload entries c.entries are (heads_mine h bytes payload heads payload_is) in
    let whole : chunk_with (header_of c) entries trailer ≡ c = ap (λ (es : List Entry). chunk_with (header_of c) es trailer) same ∙ ap (λ (l : List ℕ). chunk_with (header_of c) c.entries l) trailers in
    let all : chunk_with h entries trailer ≡ c = ap (λ (g : Header). chunk_with g entries trailer) heads.2 ∙ whole in
    subst (λ (x : Chunk). BeginsWith x (whole_len h) bytes) (sym all) heads.1
