-- What an index that is made anew is.
use Rattle.std.specs.Prelude.{◌≡◌, ◌⊎◌, ℕ, ◌+◌, ◌<◌, ◌≤◌, List, [], ◌++◌, length, take, Bool, true, false, Option, Some, None, Result, Ok, Err}
use Rattle.outside_io.specs.Known.{before_known, after_known, IsEmptyKnown}
use Rattle.chunk_format.specs.declared.chunk.Chunk.{Chunk}
use Rattle.chunk_format.specs.Chunks.{end_of_chunk}
use Rattle.chunk_format.specs.Faults.{BeginsWith}
use Rattle.segment_pairs.specs.Log.{Finder, size_of, record_of, begins, segment_header, index_header, pair_log, Chain, segment_of, index_of}
use Rattle.osiris_audit.specs.declared.window.Fault.{Fault}
use Rattle.osiris_audit.specs.declared.window.Fault.TheVariants.{Read, Write, Memory, TooLong}
use Rattle.osiris_audit.specs.declared.indexing.Step.{Step}
use Rattle.osiris_audit.specs.Windows.{WindowState, most_bytes, size_read, IsOver, Goes}
use Rattle.osiris_audit.specs.Fronts.{NoChunk, MayBegin}
use Rattle.osiris_audit.specs.Matching.{run_in, index_for}
use Rattle.osiris_audit.specs.Inspecting.{IsFrontOf, status_of}
use Rattle.osiris_audit.specs.Steps.{end_known}

-- the index of the first chunks of the run, or nothing yet
abbrev pub FirstRecords : Finder → List ℕ → List ℕ → Type 0
FirstRecords F seg text = (text ≡ []) ⊎ ((k : ℕ) × (text ≡ index_of (take k (run_in F seg))))

abbrev pub Partial : Finder → Fault → List ℕ → List ℕ → Type 0
Partial F Write seg text = IsFrontOf text (index_for F seg)
Partial F Read seg text = FirstRecords F seg text
Partial F Memory seg text = FirstRecords F seg text
Partial F TooLong seg text = FirstRecords F seg text

-- the fault of a write is one within the limit
abbrev pub IsStopped : Fault → ℕ → Type 0
IsStopped Read size = size ≤ most_bytes
IsStopped Write size = size ≤ most_bytes
IsStopped Memory size = size ≤ most_bytes
IsStopped TooLong size = most_bytes < size

-- Another header is told as soon as it is known: where it isn't told, the header was right, or too few bytes were taken, or there was no memory.
abbrev pub NotOther : Fault → List ℕ → Type 0
NotOther fault seg = (begins segment_header seg ≡ true) ⊎ ((length seg < 8) ⊎ (fault ≡ Memory))

-- what was made of these bytes
abbrev pub Makes : Finder → Result Bool Fault → List ℕ → Option (List ℕ) → List ℕ → Type 0
Makes F (Ok true) seg left text = IsEmptyKnown left × (length seg ≤ most_bytes) × (begins segment_header seg ≡ true) × (text ≡ index_for F seg)
Makes F (Ok false) seg left text = ((8 ≤ length seg) ⊎ IsEmptyKnown left) × (length seg ≤ most_bytes) × (begins segment_header seg ≡ false) × (text ≡ [])
Makes F (Err fault) seg left text = IsStopped fault (length seg) × NotOther fault seg × Partial F fault seg text

-- What an old index of a segment keeps: the index that is made anew begins with the records of it that matched, at their places.
abbrev pub Keeps : Finder → ℕ → List ℕ → List ℕ → Type 0
Keeps F end seg idx = (old new : List ℕ) × (idx ≡ index_of (pair_log F end (seg, idx)) ++ old) × (index_for F seg ≡ index_of (pair_log F end (seg, idx)) ++ new)

-- A segment whose index was made: the bytes that were read of it, and what was written.
pub record Reindexes (outcome : Result Bool Fault) (left_old left_new written_old written_new : Option (List ℕ)) : Type 0 where
  pub segment : List ℕ
  pub text : List ℕ
  pub took : left_old ≡ before_known segment left_new
  pub gave : written_new ≡ after_known written_old text
  pub makes : (F : Finder) → Makes F outcome segment left_new text
  pub keeps : begins segment_header segment ≡ true → (F : Finder) (end : ℕ) (idx : List ℕ) → begins index_header idx ≡ true → Keeps F end segment idx

abbrev pub ReindexesAs : ℕ → Option (List ℕ) → Option (List ℕ) → Option (List ℕ) → Option (List ℕ) → Type 0
ReindexesAs status left_old left_new written_old written_new = (outcome : Result Bool Fault) × (status ≡ status_of outcome) × Reindexes outcome left_old left_new written_old written_new

-- ---- on the way

-- the next chunk with its record; or none will stand here, whatever comes where the segment didn't end
abbrev pub Follows : ℕ → Option ℕ → Bool → List ℕ → Option Step → Type 0
Follows place end ended seg (Some step) =
    (c : Chunk) × BeginsWith c (size_of c) seg × MayBegin end c.first × (step.used ≡ size_of c) × (step.next ≡ end_of_chunk c) × (step.record_bytes ≡ record_of place c)
Follows place end ended seg None = (more : List ℕ) (c : Chunk) (used : ℕ) → (ended ≡ true → more ≡ []) → MayBegin end c.first → BeginsWith c used (seg ++ more) → ⊥

abbrev pub FollowsOr : ℕ → Option ℕ → List ℕ → Option (Option Step) → Type 0
FollowsOr place end seg None = NoChunk seg
FollowsOr place end seg (Some found) = Follows place end false seg found

abbrev pub NextBy : Option ℕ → Result (Option Step) Fault → List ℕ → Option (List ℕ) → WindowState → WindowState → Type 0
NextBy end (Ok found) piece left old new = Goes 0 true piece left old new × Follows new.place end new.ended new.rest found
NextBy end (Err fault) piece left old new = IsOver fault (size_read old + length piece)

-- a segment was read on up to what is told
pub record Nexts (end : Option ℕ) (result : Result (Option Step) Fault) (left_old left_new : Option (List ℕ)) (old new : WindowState) : Type 0 where
  pub piece : List ℕ
  pub took : left_old ≡ before_known piece left_new
  pub still : old.ended ≡ true → piece ≡ []
  pub by : NextBy end result piece left_new old new

-- a segment was read up to the chunks so far, whose index was written
pub record Runs (s0 s w0 w : Option (List ℕ)) (window : WindowState) (end : Option ℕ) : Type 0 where
  pub segment : List ℕ
  pub chunks : List Chunk
  pub first : ℕ
  pub took : s0 ≡ before_known segment s
  pub is : segment ≡ segment_of chunks ++ window.rest
  pub chain : Chain 8 first chunks
  pub place_is : window.place ≡ length (segment_of chunks)
  pub end_is : end ≡ end_known chunks
  pub gave : w ≡ after_known w0 (index_of chunks)
  pub segment_end : window.ended ≡ true → IsEmptyKnown s
  pub short : size_read window ≤ most_bytes

-- the index of the longest run was written, whatever comes of a segment that didn't end
pub record RunsOut (s0 s w0 w : Option (List ℕ)) (window : WindowState) : Type 0 where
  pub segment : List ℕ
  pub text : List ℕ
  pub took : s0 ≡ before_known segment s
  pub gave : w ≡ after_known w0 text
  pub segment_size : length segment ≡ size_read window
  pub segment_end : window.ended ≡ true → IsEmptyKnown s
  pub short : size_read window ≤ most_bytes
  pub header : begins segment_header segment ≡ true
  pub made : (F : Finder) (more : List ℕ) → (window.ended ≡ true → more ≡ []) → text ≡ index_for F (segment ++ more)

-- what came of the next chunk: its record was written, or none follows
abbrev pub StepGives : Result Bool Fault → Option (List ℕ) → Option (List ℕ) → Option (List ℕ) → Option (List ℕ) → WindowState → Option ℕ → Type 0
StepGives (Ok true) s0 s w0 w window end = Runs s0 s w0 w window end
StepGives (Ok false) s0 s w0 w window end = RunsOut s0 s w0 w window
StepGives (Err fault) s0 s w0 w window end = Reindexes (Err fault) s0 s w0 w

abbrev pub IndexesBy : Result (Unit {0}) Fault → Option (List ℕ) → Option (List ℕ) → Option (List ℕ) → Option (List ℕ) → WindowState → Type 0
IndexesBy (Ok done) s0 s w0 w window = RunsOut s0 s w0 w window
IndexesBy (Err fault) s0 s w0 w window = Reindexes (Err fault) s0 s w0 w
