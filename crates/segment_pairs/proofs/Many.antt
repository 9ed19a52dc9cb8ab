-- The log of several segments, where all but the last stand.
use Rattle.std.proofs.Common.{◌≡◌, inl, inr, ℕ, zero, suc, ◌+◌, ◌*◌, ◌≤◌, ◌<◌, ◌^◌, List, [], ◌∷◌, ◌++◌, length, Some, Bool, true, false, refl, sym, ◌∙◌, ap, arith, leb}
use Rattle.std.proofs.lemmas.List.{append-nil}
use Rattle.std.proofs.lemmas.Bool.{cases_eq, le-leb}
use Rattle.disk_calls.specs.declared.file_id.FileId.{FileId}
use Rattle.disk_calls.specs.Disk.{DiskState, Image, bytes_of}
use Rattle.chunk_format.specs.declared.chunk.Chunk.{Chunk}
use Rattle.chunk_format.specs.Logs.{end_of}
use Rattle.segment_pairs.specs.Log.{Finder, Pair, LogOf, Reading, pair_log, read_pair, read_below, segment_of, index_of}
use Rattle.segment_pairs.specs.Held.{segment_file, index_file, Segment, all_chunks, Picks, files_of, Missing, MissingFrom, Stands, HeldBelow, Held}
use Rattle.segment_pairs.proofs.Pairs.{pair_short, pair_whole, length-index}

-- the log so far, all records matched
abbrev pub sound : List Chunk → Reading
sound cs = record { chunks = cs; whole = true }

pub read_zero : (F : Finder) (files : ℕ → Pair) → read_below F zero files ≡ sound []
unfolding read_below
read_zero F files = refl

pub read_suc : (F : Finder) (n : ℕ) (files : ℕ → Pair) → read_below F (suc n) files ≡ read_pair F (files n) (read_below F n files)
unfolding read_below
read_suc F n files = refl

pub read_sound : (F : Finder) (p : Pair) (cs : List Chunk) → read_pair F p (sound cs) ≡ record { chunks = cs ++ pair_log F (end_of cs) p; whole = leb (length p.1) (8 + 29 * length (pair_log F (end_of cs) p)) }
unfolding read_pair
read_sound F p cs = refl

pub read_unsound : (F : Finder) (p : Pair) (cs : List Chunk) → read_pair F p (record { chunks = cs; whole = false }) ≡ record { chunks = cs; whole = false }
unfolding read_pair
read_unsound F p cs = refl

-- a pair whose records all match
pub read_full : (F : Finder) (p : Pair) (cs ds : List Chunk) → pair_log F (end_of cs) p ≡ ds → length p.1 ≤ 8 + 29 * length ds → read_pair F p (sound cs) ≡ sound (cs ++ ds)
read_full F p cs ds is le =
    let all : leb (length p.1) (8 + 29 * length (pair_log F (end_of cs) p)) ≡ true = le-leb (length p.1) (8 + 29 * length (pair_log F (end_of cs) p)) (omega (arith, le, ap length is)) in
    read_sound F p cs ∙ (λ i. record { chunks = cs ++ is i; whole = all i })

-- an index with at most a header changes nothing
pub read_none : (F : Finder) (p : Pair) (cs : List Chunk) (b : Bool) → length p.1 ≤ 8 → read_pair F p (record { chunks = cs; whole = b }) ≡ record { chunks = cs; whole = b }
read_none F p cs false le = read_unsound F p cs
read_none F p cs true le = read_full F p cs [] (pair_short F (end_of cs) p.0 p.1 le) (omega (arith, le)) ∙ ap (λ (l : List Chunk). sound l) (append-nil cs)

-- numbers without an index
pub read_gap : (F : Finder) (n m : ℕ) (files : ℕ → Pair) → m ≤ n → ((i : ℕ) → m ≤ i → i < n → length (files i).1 ≤ 8) → read_below F n files ≡ read_below F m files
read_gap F zero m files le none = ap (λ (k : ℕ). read_below F k files) (omega arith)
read_gap F (suc n) m files le none = elim (cases_eq m (suc n)) [
  | inl same ↦ ap (λ (k : ℕ). read_below F k files) (sym same)
  | inr apart ↦
      let r = read_below F n files in
      read_suc F n files ∙ read_none F (files n) r.chunks r.whole (none n (omega arith) (omega arith)) ∙ read_gap F n m files (omega arith) (λ i ge lt. none i ge (omega arith))
]

pub missing_index : (stream n : ℕ) (s : DiskState) (pick : FileId → Image) → Missing stream n s → Picks s pick → length (files_of stream pick n).1 ≤ 8
missing_index stream n s pick missing picks =
    let none : length (bytes_of (pick (index_file stream n))) ≡ 0 = ap (λ (f : Image). length (bytes_of f)) (missing.index (pick (index_file stream n)) (picks (index_file stream n))) in
    omega (arith, none)

-- what stands at a number
pub standing : (stream : ℕ) (x : Segment) (s : DiskState) (pick : FileId → Image) → Stands stream x s → Picks s pick → files_of stream pick x.number ≡ (segment_of x.chunks, index_of x.chunks)
standing stream x s pick stands picks = λ i. (bytes_of (one i), bytes_of (two i))
  where
    one : pick (segment_file stream x.number) ≡ Some (segment_of x.chunks)
    one = stands.segment.only (pick (segment_file stream x.number)) (picks (segment_file stream x.number))

    two : pick (index_file stream x.number) ≡ Some (index_of x.chunks)
    two = stands.index.only (pick (index_file stream x.number)) (picks (index_file stream x.number))

-- the log of segments that stand
pub read_held : (F : Finder) (stream top : ℕ) (segments : List Segment) (s : DiskState) (pick : FileId → Image) → HeldBelow stream top segments s → Picks s pick → read_below F top (files_of stream pick) ≡ sound (all_chunks segments)
read_held F stream top [] s pick missing picks = read_gap F top 0 (files_of stream pick) (omega arith) (λ i ge lt. missing_index stream i s pick (missing i ge lt) picks) ∙ read_zero F (files_of stream pick)
read_held F stream top (x ∷ older) s pick held picks =
    let files = files_of stream pick in
    let below : read_below F x.number files ≡ sound (all_chunks older) = read_held F stream x.number older s pick held.below picks in
    let here : files x.number ≡ (segment_of x.chunks, index_of x.chunks) = standing stream x s pick held.stands picks in
    let log : pair_log F (end_of (all_chunks older)) (segment_of x.chunks, index_of x.chunks) ≡ x.chunks = ap (λ (n : ℕ). pair_log F n (segment_of x.chunks, index_of x.chunks)) (sym held.follows) ∙ pair_whole F x.number x.chunks held.stands.chain in
    read_gap F top (x.number + 1) files (omega (arith, held.under)) (λ i ge lt. missing_index stream i s pick (held.above i ge lt) picks)
    ∙ ap (λ (k : ℕ). read_below F k files) (omega arith)
    ∙ read_suc F x.number files
    ∙ (λ i. read_pair F (here i) (below i))
    ∙ read_full F (segment_of x.chunks, index_of x.chunks) (all_chunks older) x.chunks log (omega (arith, length-index x.chunks))

-- the log where all but the files of one number stand
pub log_tail : (F : Finder) (stream n : ℕ) (older : List Segment) (s : DiskState) (pick : FileId → Image) → n < 2 ^ 64 → n ≡ end_of (all_chunks older) → HeldBelow stream n older s → MissingFrom stream (n + 1) (2 ^ 64) s → Picks s pick
    → LogOf F (files_of stream pick) ≡ all_chunks older ++ pair_log F n (files_of stream pick n)
unfolding LogOf
log_tail F stream n older s pick lt end held missing picks =
    let files = files_of stream pick in
    let below : read_below F n files ≡ sound (all_chunks older) = read_held F stream n older s pick held picks in
    let all : read_below F (2 ^ 64) files ≡ read_below F (n + 1) files = read_gap F (2 ^ 64) (n + 1) files (omega (arith, lt)) (λ i ge top. missing_index stream i s pick (missing i ge top) picks) in
    ap (λ (r : Reading). r.chunks) (all ∙ ap (λ (k : ℕ). read_below F k files) (omega arith) ∙ read_suc F n files ∙ ap (λ (r : Reading). read_pair F (files n) r) below ∙ read_sound F (files n) (all_chunks older))
    ∙ ap (λ (k : ℕ). all_chunks older ++ pair_log F k (files n)) (sym end)

-- the log where all stand
pub log_held : (F : Finder) (stream : ℕ) (segments : List Segment) (s : DiskState) (pick : FileId → Image) → Held stream segments s → Picks s pick → LogOf F (files_of stream pick) ≡ all_chunks segments
unfolding LogOf
log_held F stream segments s pick held picks = ap (λ (r : Reading). r.chunks) (read_held F stream (2 ^ 64) segments s pick held picks)
