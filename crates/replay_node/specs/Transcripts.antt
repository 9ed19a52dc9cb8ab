-- What was read and what was written, in order.
use Rattle.std.specs.Prelude.{◌≡◌, ℕ, ◌⊎◌, List, [], ◌∷◌, ◌++◌, Option}
use Rattle.std.specs.List.{flat_map}
use Rattle.outside_io.specs.Known.{before_known, after_known}
use Rattle.script_text.specs.declared.script.ScriptLine.{ScriptLine}
use Rattle.script_text.specs.Words.{line_feed, Lacks}
use Rattle.script_text.specs.Script.{line_bytes}
use Rattle.script_text.specs.declared.output.OutputLine.{OutputLine}
use Rattle.script_text.specs.Outputs.{output_bytes}
use Rattle.replay_node.specs.Replays.{end_line, bad_line}
use Rattle.replay_node.specs.Machine.{Machine, empty_machine}
use Rattle.replay_node.specs.MachineSteps.{Event, read, wrote, handled, MachineRun}

-- the bytes of the lines read
abbrev pub read_bytes : Event → List ℕ
read_bytes (read line) = line_bytes line
read_bytes (wrote output) = []
read_bytes (handled connection) = []

-- the bytes of the lines written
abbrev pub wrote_bytes : Event → List ℕ
wrote_bytes (read line) = []
wrote_bytes (wrote output) = output_bytes output
wrote_bytes (handled connection) = []

-- what may stand behind the lines of a run: the last line, or a line that is not whole
abbrev pub IsTail : List ℕ → Type 0
IsTail tail = Lacks line_feed tail ⊎ ((tail ≡ end_line) ⊎ ((number : ℕ) × (tail ≡ bad_line number)))

-- The lines that were read and those that were written stand in one order, each as it came, in which they are a run
-- of the list machine from nothing. Behind them stand the bytes read that were not answered, and a tail.
pub record Transcript (taken given : List ℕ) : Type 0 where
  pub events : List Event
  pub machine : Machine
  pub run : MachineRun empty_machine events machine
  pub rest : List ℕ
  pub tail : List ℕ
  pub is_tail : IsTail tail
  pub reads : taken ≡ flat_map read_bytes events ++ rest
  pub writes : given ≡ flat_map wrote_bytes events ++ tail

-- The transcript of what the source gave and of what the sink took, where they tell.
pub record Transcribed (left_old left_new written_old written_new : Option (List ℕ)) : Type 0 where
  pub taken : List ℕ
  pub given : List ℕ
  pub took : left_old ≡ before_known taken left_new
  pub gave : written_new ≡ after_known written_old given
  pub transcript : Transcript taken given

-- these outputs are written, in order, and between them commands may be handled
abbrev pub Writes : List Event → List OutputLine → Type 0
Writes [] [] = Unit {0}
Writes [] (output ∷ outputs) = ⊥
Writes (wrote output ∷ events) [] = ⊥
Writes (wrote output ∷ events) (next ∷ outputs) = (output ≡ next) × Writes events outputs
Writes (handled connection ∷ events) outputs = Writes events outputs
Writes (read line ∷ events) outputs = ⊥

-- the events of one line
pub record LineEvents (line : ScriptLine) (outputs : List OutputLine) (events : List Event) : Type 0 where
  pub behind : List Event
  pub is : events ≡ read line ∷ behind
  pub writes : Writes behind outputs
