-- What the bytes of segments and their indexes stand for.
use Rattle.std.specs.Prelude.{◌≡◌, ℕ, zero, suc, ◌+◌, ◌*◌, ◌<◌, ◌^◌, List, [], ◌∷◌, ◌++◌, length, drop, Bool, true, false, if◌then◌else◌, ◌==◌, ◌&&◌, leb, nat_lt, Option, Some, None}
use Rattle.chunk_format.specs.declared.chunk.Chunk.{Chunk}
use Rattle.chunk_format.specs.Chunks.{chunk_bytes, header_of, end_of_chunk, IsChunk}
use Rattle.chunk_format.specs.Faults.{BeginsWith}
use Rattle.chunk_format.specs.Index.{index_bytes}
use Rattle.chunk_format.specs.Logs.{end_of}

-- what a segment begins with: `OSIL`, and 1 as a u32
abbrev pub segment_header : List ℕ
segment_header = 79 ∷ 83 ∷ 73 ∷ 76 ∷ 0 ∷ 0 ∷ 0 ∷ 1 ∷ []

-- what an index begins with: `OSII`, and 1 as a u32
abbrev pub index_header : List ℕ
index_header = 79 ∷ 83 ∷ 73 ∷ 73 ∷ 0 ∷ 0 ∷ 0 ∷ 1 ∷ []

-- the bytes of a chunk
unfoldable pub spelled : Chunk → List ℕ
spelled c = chunk_bytes c

abbrev pub size_of : Chunk → ℕ
size_of c = length (spelled c)

-- the record of a chunk at a place of its segment, which is that of 29 bytes in an index
unfoldable pub record_of : ℕ → Chunk → List ℕ
record_of place c = index_bytes (header_of c) place

-- What tells the chunk with which bytes begin. Bytes begin with one chunk at most, so there is no other.
pub record Finder : Type 0 where
  pub find : List ℕ → Option Chunk
  pub found : (bytes : List ℕ) (c : Chunk) → find bytes ≡ Some c → (used : ℕ) × BeginsWith c used bytes
  pub all : (bytes : List ℕ) (c : Chunk) (used : ℕ) → BeginsWith c used bytes → find bytes ≡ Some c

-- bytes begin with these
abbrev pub begins : List ℕ → List ℕ → Bool
begins [] bytes = true
begins (x ∷ xs) [] = false
begins (x ∷ xs) (b ∷ bytes) = (x == b) && begins xs bytes

-- whether a chunk begins at this offset, and the index goes on with its record, whose place is a u32
unfoldable pub is_recorded : ℕ → ℕ → List ℕ → Chunk → Bool
is_recorded place end idx c = (c.first == end) && (nat_lt place (2 ^ 32) && begins (record_of place c) idx)

abbrev pub if_recorded : ℕ → ℕ → List ℕ → Option Chunk → Option Chunk
if_recorded place end idx None = None
if_recorded place end idx (Some c) = if is_recorded place end idx c then Some c else None

-- the chunk of the next index record, where that matches: it is the record of the chunk in front of the rest of the segment, which begins where the log so far ends
unfoldable pub matched : Finder → ℕ → ℕ → List ℕ → List ℕ → Option Chunk
matched F place end seg idx = if_recorded place end idx (F.find seg)

abbrev pub then_more : Option Chunk → (Chunk → List Chunk) → List Chunk
then_more None more = []
then_more (Some c) more = c ∷ more c

-- the chunks of the index records behind the first k bytes, up to the first that does not match
abbrev pub chunks_behind : Finder → ℕ → ℕ → ℕ → List ℕ → List ℕ → List Chunk
chunks_behind F k place end seg [] = []
chunks_behind F (suc k) place end seg (b ∷ idx) = chunks_behind F k place end seg idx
chunks_behind F zero place end seg (b ∷ idx) = then_more (matched F place end seg (b ∷ idx)) (λ c. chunks_behind F 28 (place + size_of c) (end_of_chunk c) (drop (size_of c) seg) idx)

-- the bytes of a segment and of its index, none where a file is missing
abbrev pub Pair : Type 0
Pair = List ℕ × List ℕ

-- the log of a segment and its index, where the log before it ends; none without both headers
unfoldable pub pair_log : Finder → ℕ → Pair → List Chunk
pair_log F end p = if begins segment_header p.0 && begins index_header p.1 then chunks_behind F zero 8 end (drop 8 p.0) (drop 8 p.1) else []

-- the log so far, and whether each record so far matched
pub record Reading : Type 0 where
  pub chunks : List Chunk
  pub whole : Bool

-- the log goes on with the records of this pair
unfoldable pub read_pair : Finder → Pair → Reading → Reading
read_pair F p r = if r.whole
    then record { chunks = r.chunks ++ pair_log F (end_of r.chunks) p; whole = leb (length p.1) (8 + 29 * length (pair_log F (end_of r.chunks) p)) }
    else r

-- the log of the files with a number below this
unfoldable pub read_below : Finder → ℕ → (ℕ → Pair) → Reading
read_below F zero files = record { chunks = []; whole = true }
read_below F (suc n) files = read_pair F (files n) (read_below F n files)

-- The log of the files, over the segments by rising number: the chunks whose index records match, up to the first record that does not match.
unfoldable pub LogOf : Finder → (ℕ → Pair) → List Chunk
LogOf F files = (read_below F (2 ^ 64) files).chunks

-- ---- files of chunks

-- chunks that stand one behind the other from a place of a segment and an offset on, at places that are u32
abbrev pub Chain : ℕ → ℕ → List Chunk → Type 0
Chain place end [] = Unit {0}
Chain place end (c ∷ cs) = (place < 2 ^ 32) × (c.first ≡ end) × IsChunk c × Chain (place + size_of c) (end_of_chunk c) cs

-- the bytes of chunks
abbrev pub flat : List Chunk → List ℕ
flat [] = []
flat (c ∷ cs) = spelled c ++ flat cs

-- the records of chunks that stand from a place on
abbrev pub records : ℕ → List Chunk → List ℕ
records place [] = []
records place (c ∷ cs) = record_of place c ++ records (place + size_of c) cs

-- the segment of these chunks and nothing else
unfoldable pub segment_of : List Chunk → List ℕ
segment_of cs = segment_header ++ flat cs

-- and its index
unfoldable pub index_of : List Chunk → List ℕ
index_of cs = index_header ++ records 8 cs

-- ---- one record

-- the next index record matches: it is that of this chunk
pub record Matches (place end : ℕ) (seg idx : List ℕ) (c : Chunk) : Type 0 where
  pub begins_with : BeginsWith c (size_of c) seg
  pub first : c.first ≡ end
  pub fits : place < 2 ^ 32
  pub recorded : idx ≡ record_of place c ++ drop 29 idx

-- it matches no chunk
abbrev pub NoMatch : ℕ → ℕ → List ℕ → List ℕ → Type 0
NoMatch place end seg idx = (c : Chunk) → Matches place end seg idx c → ⊥
