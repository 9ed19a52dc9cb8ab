-- Where a subscription begins in a list of chunks, by its offset specification.
use Rattle.std.specs.Prelude.{◌≡◌, ℕ, ℤ, pos, true, false, List, [], ◌∷◌, ◌++◌, Some, None, unwrap_or}
use Rattle.chunk_format.specs.declared.entry.Entry.{Entry}
use Rattle.chunk_format.specs.declared.entry.Entry.TheVariants.{Simple}
use Rattle.chunk_format.specs.declared.chunk.ChunkKind.{ChunkKind}
use Rattle.chunk_format.specs.declared.chunk.ChunkKind.TheVariants.{User, Delta}
use Rattle.chunk_format.specs.declared.chunk.Chunk.{Chunk}
use Rattle.chunk_format.specs.Logs.{end_from, end_of, is_user, is_since, last_user, first_since}
use Rattle.command_fields.specs.declared.offset.OffsetSpec.{OffsetSpec}
use Rattle.command_fields.specs.declared.offset.OffsetSpec.TheVariants.{Unset, First, Last, Next, At, Since}

-- The first offset, the first of the last user chunk, the end, the offset itself, or the first of the first user chunk of
-- the moment or later; the end where there is no such chunk. A specification that names no place is the end.
abbrev pub StartOf : OffsetSpec → List Chunk → ℕ
StartOf First chunks = 0
StartOf Last chunks = unwrap_or (last_user chunks) (end_of chunks)
StartOf Next chunks = end_of chunks
StartOf Unset chunks = end_of chunks
StartOf (At offset) chunks = offset
StartOf (Since moment) chunks = unwrap_or (first_since moment chunks) (end_of chunks)

-- ---- in a list that goes on

-- The end moves on. A user chunk that follows is the last one, and another chunk leaves the last one. What was found of a
-- moment stays, and where nothing was, the first chunk of that moment is found when it follows.
pub record StartsGoOn : Type 0 where
  pub end_moves : (chunks more : List Chunk) → StartOf Next (chunks ++ more) ≡ end_from (StartOf Next chunks) more
  pub user_is_last : (chunks : List Chunk) (c : Chunk) → is_user c.kind ≡ true → StartOf Last (chunks ++ c ∷ []) ≡ c.first
  pub last_stays : (chunks : List Chunk) (c : Chunk) (at : ℕ) → is_user c.kind ≡ false → last_user chunks ≡ Some at → StartOf Last (chunks ++ c ∷ []) ≡ at
  pub found_stays : (moment : ℤ) (chunks more : List Chunk) (at : ℕ) → first_since moment chunks ≡ Some at → StartOf (Since moment) (chunks ++ more) ≡ at
  pub found_later : (moment : ℤ) (chunks : List Chunk) (c : Chunk) → first_since moment chunks ≡ None → is_since moment c ≡ true → StartOf (Since moment) (chunks ++ c ∷ []) ≡ c.first

-- ---- on a small list

abbrev pub stamped : ChunkKind → ℤ → ℕ → List Entry → Chunk
stamped kind stamp first entries = record { kind = kind; stamp = stamp; epoch = 1; first = first; entries = entries; trailer = [] }

-- two messages at 0, an offset at 2, and a message at 3
abbrev pub three_chunks : List Chunk
three_chunks =
    stamped User (pos 10) 0 (Simple (97 ∷ []) ∷ Simple (98 ∷ []) ∷ []) ∷
    stamped Delta (pos 20) 2 (Simple (99 ∷ []) ∷ []) ∷
    stamped User (pos 30) 3 (Simple (100 ∷ []) ∷ []) ∷
    []

pub record StartsOfThree : Type 0 where
  pub first : StartOf First three_chunks ≡ 0
  pub last : StartOf Last three_chunks ≡ 3
  pub next : StartOf Next three_chunks ≡ 4
  pub unset : StartOf Unset three_chunks ≡ 4
  pub at : StartOf (At 7) three_chunks ≡ 7
  pub since_ten : StartOf (Since (pos 10)) three_chunks ≡ 0
  pub since_eleven : StartOf (Since (pos 11)) three_chunks ≡ 3
  pub since_thirty_one : StartOf (Since (pos 31)) three_chunks ≡ 4
  pub last_of_none : StartOf Last [] ≡ 0
