-- Before a line is read, all lines so far are answered; and what an inspection of a stream is compared with.
use Rattle.std.specs.Prelude.{◌≡◌, ℕ, List, [], ◌∷◌, ◌++◌, map}
use Rattle.script_text.specs.declared.script.ScriptLine.{ScriptLine}
use Rattle.script_text.specs.declared.script.ScriptLine.TheVariants as script
use Rattle.script_text.specs.declared.output.OutputLine.{OutputLine}
use Rattle.script_text.specs.declared.output.OutputLine.TheVariants as output
use Rattle.list_machine.specs.Lines.{IsQuiet}
use Rattle.list_machine.specs.Machines.{Machine, empty_machine}
use Rattle.list_machine.specs.Steps.{Event, read, told, MachineRun}
use Rattle.list_machine.specs.Transcripts.{CommitLines}
use Rattle.list_machine.specs.Examples.{a_stream_made}

-- some events of a run, and those behind them
pub record Parts (old : Machine) (before behind : List Event) (new : Machine) : Type 0 where
  pub mid : Machine
  pub first : MachineRun old before mid
  pub second : MachineRun mid behind new

-- Where a line is read, each command that was read before it is handled, each answer is written, and each connection that
-- was to end has ended.
abbrev pub LinesWait : Machine → List Event → Machine → Type 0
LinesWait old events new =
    (before behind : List Event) (line : ScriptLine) → events ≡ before ++ read line ∷ behind → (parts : Parts old before (read line ∷ behind) new) × IsQuiet parts.mid

-- What is inspected behind these events is compared with the list that the stream has then.
abbrev pub InspectsItsList : ℕ → List Event → List Event → Machine → Type 0
InspectsItsList number before behind new = (parts : Parts empty_machine before behind new) × ((parts.mid.streams number).chunks ≡ CommitLines number before)

-- no run of the machine with nothing has these events
abbrev pub HasNoRun : List Event → Type 0
HasNoRun events = (new : Machine) → MachineRun empty_machine events new → ⊥

-- ---- an inspection on literals

-- the log of a member ends there
abbrev pub log_to : ℕ → ℕ → OutputLine
log_to member end = output.Log 1 member 1 end

-- stream 1 has the opening, which ends at 1, and is inspected
abbrev pub inspected_as : List OutputLine → List Event
inspected_as lines = a_stream_made ++ read (script.Inspect 1) ∷ (map told lines ++ read (script.Poll 1) ∷ [])
