-- Which records of an index match, where the first chunk of the segment may begin at any offset.
use Rattle.std.specs.Prelude.{◌≡◌, ℕ, zero, suc, ◌-◌, ◌∷◌, List, [], drop, true, Option, Some, None, if◌then◌else◌, ◌==◌}
use Rattle.chunk_format.specs.declared.chunk.Chunk.{Chunk}
use Rattle.chunk_format.specs.Chunks.{end_of_chunk}
use Rattle.segment_pairs.specs.Log.{Finder, size_of, begins, segment_header, then_more, pair_log, index_of}

abbrev pub first_or_zero : Option Chunk → ℕ
first_or_zero None = 0
first_or_zero (Some c) = c.first

-- where the chunk behind a segment's header begins, 0 where there is none
unfoldable pub first_in : Finder → List ℕ → ℕ
first_in F seg = first_or_zero (F.find (drop 8 seg))

-- the chunks of a segment whose index records match, up to the first record that does not
abbrev pub matching : Finder → List ℕ → List ℕ → List Chunk
matching F seg idx = pair_log F (first_in F seg) (seg, idx)

-- the headers and each record match: the index has the records of these chunks and no further byte
abbrev pub AllMatch : Finder → List ℕ → List ℕ → Type 0
AllMatch F seg idx = (begins segment_header seg ≡ true) × (idx ≡ index_of (matching F seg idx))

-- a chunk that begins at this offset
abbrev pub following : ℕ → Option Chunk → Option Chunk
following end None = None
following end (Some c) = if c.first == end then Some c else None

-- the longest run of chunks behind the first k bytes, each beginning where the one before ends, the first at this offset
abbrev pub run_behind : Finder → ℕ → ℕ → List ℕ → List Chunk
run_behind F k end [] = []
run_behind F (suc k) end (b ∷ seg) = run_behind F k end seg
run_behind F zero end (b ∷ seg) = then_more (following end (F.find (b ∷ seg))) (λ c. run_behind F (size_of c - 1) (end_of_chunk c) seg)

-- the longest run of chunks behind a segment's header; none without it
unfoldable pub run_in : Finder → List ℕ → List Chunk
run_in F seg = if begins segment_header seg then run_behind F zero (first_in F seg) (drop 8 seg) else []

-- the index of a segment: a header, and the record of each chunk of that run
abbrev pub index_for : Finder → List ℕ → List ℕ
index_for F seg = index_of (run_in F seg)
