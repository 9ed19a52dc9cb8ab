-- How far an inspection is, and what came of the next record.
use Rattle.std.specs.Prelude.{◌≡◌, ℕ, ◌+◌, ◌-◌, ◌/◌, ◌≤◌, List, [], ◌∷◌, ◌++◌, length, Bool, true, false, Option, Some, None, Result, Ok, Err}
use Rattle.outside_io.specs.Known.{before_known, after_known, IsEmptyKnown}
use Rattle.chunk_format.specs.declared.chunk.Chunk.{Chunk}
use Rattle.chunk_format.specs.Chunks.{end_of_chunk}
use Rattle.chunk_format.specs.Logs.{end_from}
use Rattle.segment_pairs.specs.Log.{Finder, size_of, Matches, NoMatch}
use Rattle.segment_pairs.specs.Found.{Walks}
use Rattle.osiris_audit.specs.declared.window.Fault.{Fault}
use Rattle.osiris_audit.specs.declared.window.Fault.TheVariants.{Read, Write, Memory, TooLong}
use Rattle.osiris_audit.specs.declared.inspection.Look.{Look}
use Rattle.osiris_audit.specs.declared.inspection.Look.TheVariants as look
use Rattle.osiris_audit.specs.declared.inspection.Turn.{Turn}
use Rattle.osiris_audit.specs.declared.inspection.Turn.TheVariants as turn
use Rattle.osiris_audit.specs.Windows.{WindowState, most_bytes, size_read, IsOver, Goes}
use Rattle.osiris_audit.specs.Fronts.{NoChunk, MayBegin}
use Rattle.osiris_audit.specs.Matching.{matching}
use Rattle.osiris_audit.specs.Lines.{chunk_lines, lines_of}
use Rattle.osiris_audit.specs.Inspecting.{EitherOver, Judged, IsFrontOf, FirstLines}

-- where chunks end, where there are some
abbrev pub end_known : List Chunk → Option ℕ
end_known [] = None
end_known (c ∷ cs) = Some (end_from (end_of_chunk c) cs)

-- the next record is that of a chunk that stands here; or no record will match, whatever comes where the segment didn't end
abbrev pub Looks : ℕ → Option ℕ → Bool → List ℕ → List ℕ → List ℕ → Look → Type 0
Looks place end ended seg idx text (look.Match used next) =
    (c : Chunk) × Matches place c.first seg idx c × MayBegin end c.first × (used ≡ size_of c) × (next ≡ end_of_chunk c) × (text ≡ chunk_lines c)
Looks place end ended seg idx text look.Wrong =
    (more index_more : List ℕ) (first : ℕ) → (ended ≡ true → more ≡ []) → MayBegin end first → NoMatch place first (seg ++ more) (idx ++ index_more)

-- the same, or no chunk so far
abbrev pub LooksOr : ℕ → Option ℕ → List ℕ → List ℕ → List ℕ → Option Look → Type 0
LooksOr place end seg idx text None = NoChunk seg × (text ≡ [])
LooksOr place end seg idx text (Some found) = Looks place end false seg idx text found

abbrev pub FindsBy : Option ℕ → List ℕ → List ℕ → Result Look Fault → List ℕ → Option (List ℕ) → WindowState → WindowState → Type 0
FindsBy end idx text (Ok found) piece left old new = Goes 0 true piece left old new × Looks new.place end new.ended new.rest idx text found
FindsBy end idx text (Err fault) piece left old new = IsOver fault (size_read old + length piece)

-- a segment was read on up to what is told
pub record Finds (end : Option ℕ) (idx text : List ℕ) (result : Result Look Fault) (left_old left_new : Option (List ℕ)) (old new : WindowState) : Type 0 where
  pub piece : List ℕ
  pub took : left_old ≡ before_known piece left_new
  pub still : old.ended ≡ true → piece ≡ []
  pub by : FindsBy end idx text result piece left_new old new

-- both files were read up to the chunks that matched so far, whose lines were written
pub record Far (s0 s i0 i w0 w : Option (List ℕ)) (segment_window index_window : WindowState) (end : Option ℕ) : Type 0 where
  pub segment : List ℕ
  pub index : List ℕ
  pub chunks : List Chunk
  pub first : ℕ
  pub took_segment : s0 ≡ before_known segment s
  pub took_index : i0 ≡ before_known index i
  pub walks : Walks first segment index segment_window.place index_window.place (end_from first chunks) chunks segment_window.rest index_window.rest
  pub end_is : end ≡ end_known chunks
  pub gave : w ≡ after_known w0 (lines_of chunks)
  pub segment_end : segment_window.ended ≡ true → IsEmptyKnown s
  pub index_end : index_window.ended ≡ true → IsEmptyKnown i
  pub segment_short : size_read segment_window ≤ most_bytes
  pub index_short : size_read index_window ≤ most_bytes

-- these chunks match, whatever comes of files that didn't end
pub record Judges (good : Bool) (s0 s i0 i w0 w : Option (List ℕ)) (segment_window index_window : WindowState) : Type 0 where
  pub segment : List ℕ
  pub index : List ℕ
  pub chunks : List Chunk
  pub took_segment : s0 ≡ before_known segment s
  pub took_index : i0 ≡ before_known index i
  pub gave : w ≡ after_known w0 (lines_of chunks)
  pub segment_size : length segment ≡ size_read segment_window
  pub index_size : length index ≡ size_read index_window
  pub segment_end : segment_window.ended ≡ true → IsEmptyKnown s
  pub index_end : index_window.ended ≡ true → IsEmptyKnown i
  pub segment_short : size_read segment_window ≤ most_bytes
  pub index_short : size_read index_window ≤ most_bytes
  pub count : (index_window.place - 8) / 29 ≡ length chunks
  pub judged : (F : Finder) (more index_more : List ℕ) → (segment_window.ended ≡ true → more ≡ []) → (index_window.ended ≡ true → index_more ≡ [])
      → (matching F (segment ++ more) (index ++ index_more) ≡ chunks) × Judged F good (segment ++ more) (index ++ index_more)

-- a part of the lines of the chunks that match: whole lines where no write failed
abbrev pub CutBy : Finder → Fault → List ℕ → List ℕ → List ℕ → Type 0
CutBy F Write seg idx text = IsFrontOf text (lines_of (matching F seg idx))
CutBy F Read seg idx text = FirstLines F seg idx text
CutBy F Memory seg idx text = FirstLines F seg idx text
CutBy F TooLong seg idx text = FirstLines F seg idx text

pub record Breaks (fault : Fault) (s0 s i0 i w0 w : Option (List ℕ)) : Type 0 where
  pub segment : List ℕ
  pub index : List ℕ
  pub text : List ℕ
  pub took_segment : s0 ≡ before_known segment s
  pub took_index : i0 ≡ before_known index i
  pub gave : w ≡ after_known w0 text
  pub over : EitherOver fault (length segment) (length index)
  pub cut : (F : Finder) → CutBy F fault segment index text

-- what came of the next record
abbrev pub TurnGives : Result Turn Fault → Option (List ℕ) → Option (List ℕ) → Option (List ℕ) → Option (List ℕ) → Option (List ℕ) → Option (List ℕ) → WindowState → WindowState → Option ℕ → Type 0
TurnGives (Ok turn.Next) s0 s i0 i w0 w sw iw end = Far s0 s i0 i w0 w sw iw end
TurnGives (Ok (turn.Last good)) s0 s i0 i w0 w sw iw end = Judges good s0 s i0 i w0 w sw iw
TurnGives (Err fault) s0 s i0 i w0 w sw iw end = Breaks fault s0 s i0 i w0 w

-- what came of all records
abbrev pub ReadsAll : Result Bool Fault → Option (List ℕ) → Option (List ℕ) → Option (List ℕ) → Option (List ℕ) → Option (List ℕ) → Option (List ℕ) → WindowState → WindowState → Type 0
ReadsAll (Ok good) s0 s i0 i w0 w sw iw = Judges good s0 s i0 i w0 w sw iw
ReadsAll (Err fault) s0 s i0 i w0 w sw iw = Breaks fault s0 s i0 i w0 w

-- what came of the headers, where nothing was written yet
abbrev pub HeadersGive : Result Bool Fault → Option (List ℕ) → Option (List ℕ) → Option (List ℕ) → Option (List ℕ) → Option (List ℕ) → WindowState → WindowState → Option ℕ → Type 0
HeadersGive (Ok right) s0 s i0 i w sw iw end = (right ≡ true → Far s0 s i0 i w w sw iw end) × (right ≡ false → Judges false s0 s i0 i w w sw iw)
HeadersGive (Err fault) s0 s i0 i w sw iw end = Breaks fault s0 s i0 i w w
