-- What was read and what was written, in order.
use Rattle.std.specs.Prelude.{◌≡◌, ◌≢◌, ℕ, ◌*◌, ◌<◌, ◌⊎◌, nat_le, ◌==◌, if◌then◌else◌, Bool, true, false, List, [], ◌∷◌, ◌++◌, length, map, count_by, flat_map}
use Rattle.std.specs.List.{AllByRecursion}
use Rattle.chunk_format.specs.declared.chunk.Chunk.{Chunk}
use Rattle.chunk_format.specs.Chunks.{chunk_bytes}
use Rattle.chunk_format.specs.Logs.{end_of}
use Rattle.command_fields.specs.Codes.{number_of_code}
use Rattle.command_all.specs.Commands.{frame_of}
use Rattle.command_all.specs.Fitting.{Fits}
use Rattle.script_text.specs.declared.script.ScriptLine.{ScriptLine}
use Rattle.script_text.specs.declared.script.ScriptLine.TheVariants.{Inspect}
use Rattle.script_text.specs.declared.output.OutputLine.{OutputLine}
use Rattle.script_text.specs.declared.output.OutputLine.TheVariants as lines
use Rattle.script_text.specs.Words.{line_feed, Lacks}
use Rattle.script_text.specs.Script.{line_bytes, IsScriptLine}
use Rattle.script_text.specs.Outputs.{output_bytes, IsOutput}
use Rattle.list_machine.specs.Machines.{Machine, empty_machine}
use Rattle.list_machine.specs.Steps.{Event, read, handled, misread, made, refused, found, committed, sent, ended, told, MachineRun}

-- ---- lines of events

-- the line that an event reads
abbrev pub lines_read : Event → List ScriptLine
lines_read (read line) = line ∷ []
lines_read (handled c command answer) = []
lines_read (misread c answer) = []
lines_read made = []
lines_read (refused code) = []
lines_read (found change) = []
lines_read (committed number chunk) = []
lines_read (sent c command) = []
lines_read (ended c how) = []
lines_read (told line) = []

-- the line that an event writes
abbrev pub lines_written : Event → List OutputLine
lines_written (read line) = []
lines_written (handled c command answer) = []
lines_written (misread c answer) = []
lines_written made = []
lines_written (refused code) = lines.Refused (number_of_code code) ∷ []
lines_written (found change) = []
lines_written (committed number chunk) = lines.Committed number (chunk_bytes chunk) ∷ []
lines_written (sent c command) = lines.Sent c (frame_of command) ∷ []
lines_written (ended c how) = lines.Bye c how ∷ []
lines_written (told line) = line ∷ []

-- a frame that is written spells its command
abbrev pub IsSpelt : Event → Type 0
IsSpelt (sent c command) = Fits command
IsSpelt other = Unit {0}

-- Lines read are lines of the language, and lines written are such lines.
pub record AreLines (event : Event) : Type 0 where
  pub reads : AllByRecursion IsScriptLine (lines_read event)
  pub writes : AllByRecursion IsOutput (lines_written event)
  pub spelt : IsSpelt event

abbrev pub read_bytes : Event → List ℕ
read_bytes event = flat_map line_bytes (lines_read event)

abbrev pub written_bytes : Event → List ℕ
written_bytes event = flat_map output_bytes (lines_written event)

-- what may stand behind the lines of a run: the last line, or a line that isn't whole
abbrev pub IsTail : List ℕ → Type 0
IsTail tail = Lacks line_feed tail ⊎ ((tail ≡ output_bytes lines.End) ⊎ ((number : ℕ) × (tail ≡ output_bytes (lines.Bad number))))

-- The lines that were read and those that were written stand in one order, each as it came, in which they are a run of the
-- list machine from nothing. Behind them stand the bytes read that weren't answered, and a tail.
pub record Transcript (taken given : List ℕ) : Type 0 where
  pub events : List Event
  pub machine : Machine
  pub run : MachineRun empty_machine events machine
  pub lines : AllByRecursion AreLines events
  pub rest : List ℕ
  pub tail : List ℕ
  pub is_tail : IsTail tail
  pub reads : taken ≡ flat_map read_bytes events ++ rest
  pub writes : given ≡ flat_map written_bytes events ++ tail

-- ---- commit lines

-- the chunk that an event commits to a stream
abbrev pub committed_in : ℕ → Event → List Chunk
committed_in number (committed other chunk) = if number == other then chunk ∷ [] else []
committed_in number (read line) = []
committed_in number (handled c command answer) = []
committed_in number (misread c answer) = []
committed_in number made = []
committed_in number (refused code) = []
committed_in number (found change) = []
committed_in number (sent c command) = []
committed_in number (ended c how) = []
committed_in number (told line) = []

-- the chunks of a stream's commit lines, in order
abbrev pub CommitLines : ℕ → List Event → List Chunk
CommitLines number events = flat_map (committed_in number) events

-- ---- what is inspected

-- the member is down, or its log ends there or later
abbrev pub holds_to : ℕ → OutputLine → Bool
holds_to end (lines.LogDown stream member) = true
holds_to end (lines.Log stream member count own) = nat_le end own
holds_to end other = false

-- more than half of the lines say so
abbrev pub MostHold : ℕ → List OutputLine → Type 0
MostHold end inspected = length inspected < 2 * count_by (holds_to end) inspected

-- the next event reads a line
abbrev pub NextReads : List Event → Type 0
NextReads [] = ⊥
NextReads (event ∷ events) = lines_read event ≢ []

-- Each time that a stream is inspected, more than half of its members are down or hold all that its commit lines say.
abbrev pub InspectsKept : List Event → Type 0
InspectsKept events =
    (before behind : List Event) (number : ℕ) (inspected : List OutputLine)
    → events ≡ before ++ read (Inspect number) ∷ (map told inspected ++ behind) → NextReads behind
    → MostHold (end_of (CommitLines number before)) inspected
