-- What an inspection of a segment and its index tells.
use Rattle.std.specs.Prelude.{◌≡◌, ◌⊎◌, ℕ, ◌<◌, ◌≤◌, List, ◌++◌, length, take, Bool, true, false, if◌then◌else◌, Option, Result, Ok, Err}
use Rattle.outside_io.specs.Known.{before_known, after_known, IsEmptyKnown}
use Rattle.segment_pairs.specs.Log.{Finder}
use Rattle.osiris_audit.specs.declared.window.Fault.{Fault}
use Rattle.osiris_audit.specs.declared.window.Fault.TheVariants.{Read, Write, Memory, TooLong}
use Rattle.osiris_audit.specs.Windows.{most_bytes}
use Rattle.osiris_audit.specs.Matching.{matching, AllMatch}
use Rattle.osiris_audit.specs.Lines.{lines_of, ok_line, bad_line}

abbrev pub fault_status : Fault → ℕ
fault_status Read = 4
fault_status Write = 5
fault_status Memory = 6
fault_status TooLong = 9

-- the status of each end: whether all was right, or the fault
abbrev pub status_of : Result Bool Fault → ℕ
status_of (Ok good) = if good then 0 else 3
status_of (Err fault) = fault_status fault

-- the first bytes of these are those
abbrev pub IsFrontOf : List ℕ → List ℕ → Type 0
IsFrontOf front whole = (more : List ℕ) × (whole ≡ front ++ more)

-- both files are within the limit, or one of them is not
abbrev pub EitherOver : Fault → ℕ → ℕ → Type 0
EitherOver Read m n = (m ≤ most_bytes) × (n ≤ most_bytes)
EitherOver Write m n = (m ≤ most_bytes) × (n ≤ most_bytes)
EitherOver Memory m n = (m ≤ most_bytes) × (n ≤ most_bytes)
EitherOver TooLong m n = (most_bytes < m) ⊎ (most_bytes < n)

-- whether the headers and each record match
abbrev pub Judged : Finder → Bool → List ℕ → List ℕ → Type 0
Judged F true seg idx = AllMatch F seg idx
Judged F false seg idx = AllMatch F seg idx → ⊥

-- the last line: whether all matched, and how many chunks did
abbrev pub last_line : Bool → ℕ → List ℕ
last_line good count = if good then ok_line count else bad_line count

-- all that is written
abbrev pub whole_text : Finder → Bool → List ℕ → List ℕ → List ℕ
whole_text F good seg idx = lines_of (matching F seg idx) ++ last_line good (length (matching F seg idx))

-- both files were read to their end within the limit, and this is whether all matched
pub record Ended (F : Finder) (good : Bool) (seg idx : List ℕ) (seg_left idx_left : Option (List ℕ)) : Type 0 where
  pub segment_end : IsEmptyKnown seg_left
  pub index_end : IsEmptyKnown idx_left
  pub segment_short : length seg ≤ most_bytes
  pub index_short : length idx ≤ most_bytes
  pub judged : Judged F good seg idx

-- whole lines of the first chunks that match
abbrev pub FirstLines : Finder → List ℕ → List ℕ → List ℕ → Type 0
FirstLines F seg idx text = (k : ℕ) × (text ≡ lines_of (take k (matching F seg idx)))

-- a part of the lines of the chunks that match, or of all that is written
abbrev pub CutLines : Finder → List ℕ → List ℕ → Option (List ℕ) → Option (List ℕ) → List ℕ → Type 0
CutLines F seg idx seg_left idx_left text =
    IsFrontOf text (lines_of (matching F seg idx)) ⊎ ((good : Bool) × Ended F good seg idx seg_left idx_left × IsFrontOf text (whole_text F good seg idx))

abbrev pub Stopped : Finder → Fault → List ℕ → List ℕ → Option (List ℕ) → Option (List ℕ) → List ℕ → Type 0
Stopped F Write seg idx seg_left idx_left text = CutLines F seg idx seg_left idx_left text
Stopped F Read seg idx seg_left idx_left text = FirstLines F seg idx text
Stopped F Memory seg idx seg_left idx_left text = FirstLines F seg idx text
Stopped F TooLong seg idx seg_left idx_left text = FirstLines F seg idx text

-- what was told of these bytes
abbrev pub Tells : Finder → Result Bool Fault → List ℕ → List ℕ → Option (List ℕ) → Option (List ℕ) → List ℕ → Type 0
Tells F (Ok good) seg idx seg_left idx_left text = Ended F good seg idx seg_left idx_left × (text ≡ whole_text F good seg idx)
Tells F (Err fault) seg idx seg_left idx_left text = EitherOver fault (length seg) (length idx) × Stopped F fault seg idx seg_left idx_left text

-- A segment and its index that were inspected: the bytes that were read of both, and what was written.
pub record Inspects (outcome : Result Bool Fault) (seg_old seg_new idx_old idx_new written_old written_new : Option (List ℕ)) : Type 0 where
  pub segment : List ℕ
  pub index : List ℕ
  pub text : List ℕ
  pub took_segment : seg_old ≡ before_known segment seg_new
  pub took_index : idx_old ≡ before_known index idx_new
  pub gave : written_new ≡ after_known written_old text
  pub tells : (F : Finder) → Tells F outcome segment index seg_new idx_new text

-- the status is that of an inspection
abbrev pub InspectsAs : ℕ → Option (List ℕ) → Option (List ℕ) → Option (List ℕ) → Option (List ℕ) → Option (List ℕ) → Option (List ℕ) → Type 0
InspectsAs status seg_old seg_new idx_old idx_new written_old written_new =
    (outcome : Result Bool Fault) × (status ≡ status_of outcome) × Inspects outcome seg_old seg_new idx_old idx_new written_old written_new
