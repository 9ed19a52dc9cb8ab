-- How a client's program ends: what it writes last, and its status.
use Rattle.std.specs.Prelude.{◌≡◌, ◌⊎◌, ℕ, List, [], ◌∷◌, ◌++◌, take, codes, Option, Some, None, Result, Ok, Err}
use Rattle.std.specs.Fmt.{decimal}
use Rattle.script_text.specs.Words.{line_feed, code_word}
use Rattle.outside_io.specs.Known.{after_known}
use Rattle.outside_io.specs.declared.link.Hearing.{Hearing}
use Rattle.client_terms.specs.declared.fault.ClientFault.{ClientFault}
use Rattle.client_terms.specs.declared.fault.ClientFault.TheVariants as faults
use Rattle.client_terms.specs.States.{ClientState}
use Rattle.client_program.specs.Words.{Deed, creates, publishes, resumes, consumes, queries, Asked}
use Rattle.client_program.specs.Inputs.{Takes}
use Rattle.client_program.specs.Acts.{MakesCore, core_of, wanted_of}
use Rattle.client_program.specs.Runs.{RunState, run_at, RunsTo}
use Rattle.client_program.specs.declared.input.InputFault.{InputFault}
use Rattle.client_program.specs.declared.input.InputFault.TheVariants as inputs
use Rattle.client_program.specs.declared.lines.LinesFault.{LinesFault}
use Rattle.client_program.specs.declared.lines.LinesFault.TheVariants as lines
use Rattle.client_program.specs.declared.run.ClientEnd.{ClientEnd}
use Rattle.client_program.specs.declared.run.ClientEnd.TheVariants.{Finished, LinkEnded, LinkFault, WriteFault, Fault, Memory}

-- ---- statuses

abbrev pub input_status : InputFault → ℕ
input_status inputs.Read = 4
input_status inputs.TooLong = 9
input_status inputs.Memory = 6

abbrev pub lines_status : LinesFault → ℕ
lines_status lines.TooLong = 9
lines_status lines.Memory = 6

abbrev pub fault_status : ClientFault → ℕ
fault_status (faults.Frame fault) = 3
fault_status (faults.TooLarge size) = 3
fault_status (faults.Chunk fault) = 3
fault_status (faults.Unexpected key) = 3
fault_status (faults.Refused key code) = 8
fault_status (faults.Closed code) = 8
fault_status (faults.StreamLost code) = 8
fault_status faults.Memory = 6

abbrev pub end_status : ClientEnd → ℕ
end_status Finished = 0
end_status LinkEnded = 12
end_status LinkFault = 4
end_status WriteFault = 5
end_status (Fault fault) = fault_status fault
end_status Memory = 6

-- ---- what is written last

-- the response code, in four hexadecimal digits
abbrev pub refused_line : ℕ → List ℕ
refused_line code = codes "refused " ++ (code_word code ++ line_feed ∷ [])

abbrev pub fault_line : ClientFault → List ℕ
fault_line (faults.Frame fault) = []
fault_line (faults.TooLarge size) = []
fault_line (faults.Chunk fault) = []
fault_line (faults.Unexpected key) = []
fault_line (faults.Refused key code) = refused_line code
fault_line (faults.Closed code) = refused_line code
fault_line (faults.StreamLost code) = refused_line code
fault_line faults.Memory = []

abbrev pub end_line : ClientEnd → List ℕ
end_line Finished = []
end_line LinkEnded = []
end_line LinkFault = []
end_line WriteFault = []
end_line (Fault fault) = fault_line fault
end_line Memory = []

-- a number that was told
abbrev pub told_line : Option ℕ → List ℕ
told_line None = []
told_line (Some n) = decimal n ++ line_feed ∷ []

abbrev pub confirmed_line : ℕ → List ℕ
confirmed_line id = codes "confirmed " ++ (decimal id ++ line_feed ∷ [])

-- a publisher tells up to which id all is confirmed, however it ended; a query tells its number once it is answered
abbrev pub deed_line : Deed → ClientEnd → ClientState → List ℕ
deed_line creates end s = []
deed_line (publishes name) end s = confirmed_line s.confirmed
deed_line (resumes name from) end s = confirmed_line s.confirmed
deed_line (consumes offset count) end s = []
deed_line (queries name) Finished s = told_line s.answer
deed_line (queries name) other s = []

-- nothing is written after want of memory or behind a write that failed
abbrev pub last_lines : Deed → ClientEnd → ClientState → List ℕ
last_lines d WriteFault s = []
last_lines d Memory s = []
last_lines d end s = end_line end ++ deed_line d end s

-- ---- the whole

-- the input of a publisher is read to its end, and no other is touched
abbrev pub IsInput : Deed → List ℕ → Option (List ℕ) → Option (List ℕ) → Type 0
IsInput creates text old new = (text ≡ []) × (new ≡ old)
IsInput (publishes name) text old new = Takes (Ok text) old new
IsInput (resumes name from) text old new = Takes (Ok text) old new
IsInput (consumes offset count) text old new = (text ≡ []) × (new ≡ old)
IsInput (queries name) text old new = (text ≡ []) × (new ≡ old)

abbrev pub ReadsFor : Deed → Result (List ℕ) InputFault → Option (List ℕ) → Option (List ℕ) → Type 0
ReadsFor d (Ok text) old new = IsInput d text old new
ReadsFor d (Err fault) old new = Takes (Err fault) old new

-- the last lines were written; or a write failed within them; or there was no memory for them
abbrev pub Reports : ℕ → ClientEnd → List ℕ → Option (List ℕ) → Option (List ℕ) → Type 0
Reports status end last old new =
    ((status ≡ end_status end) × (new ≡ after_known old last))
    ⊎ (((status ≡ 5) × ((k : ℕ) × (new ≡ after_known old (take k last))))
    ⊎ ((status ≡ 6) × (new ≡ old)))

-- what was heard, sent and written, where that is told
pub record Outside : Type 0 where
  pub heard : Option (List Hearing)
  pub sent : Option (List ℕ)
  pub written : Option (List ℕ)

abbrev pub outside_at : Option (List Hearing) → Option (List ℕ) → Option (List ℕ) → Outside
outside_at heard sent written = record { heard = heard; sent = sent; written = written }

-- the run of the client that these words and this text make, and its last lines
pub record Ran (a : Asked) (text : List ℕ) (status : ℕ) (old new : Outside) : Type 0 where
  pub lines : List (List ℕ)
  pub made : MakesCore (Ok (core_of a lines)) a text
  pub end : ClientEnd
  pub last : RunState
  pub runs : RunsTo end (run_at (core_of a lines) (wanted_of a.deed) old.heard old.sent old.written) last
  pub reports : Reports status end (last_lines a.deed end last.core.client) last.written new.written
  pub heard : new.heard ≡ last.heard
  pub sent : new.sent ≡ last.sent

-- the input was not read to its end; or it has a line that is too long, or there was no memory for it; or the client ran
pub data ClientDoes (a : Asked) (status : ℕ) (left_old left_new : Option (List ℕ)) (old new : Outside) : Type 0 where
  NotRead : (fault : InputFault) → Takes (Err fault) left_old left_new → status ≡ input_status fault → new ≡ old → ClientDoes a status left_old left_new old new
  NotMade : (text : List ℕ) (fault : LinesFault) → IsInput a.deed text left_old left_new → MakesCore (Err fault) a text → status ≡ lines_status fault → new ≡ old → ClientDoes a status left_old left_new old new
  Does : (text : List ℕ) → IsInput a.deed text left_old left_new → Ran a text status old new → ClientDoes a status left_old left_new old new
