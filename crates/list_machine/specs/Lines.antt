-- What a line that is read does.
use Rattle.std.specs.Prelude.{◌≡◌, ℕ, ◌≤◌, List, [], ◌∷◌, ◌++◌, Some, None}
use Rattle.script_text.specs.declared.script.ScriptLine.{ScriptLine}
use Rattle.script_text.specs.declared.script.ScriptLine.TheVariants.{Create, Connect, Prepare, Give, Poll, Leave, Tick, Elect, Deliver, Lose, Perform, Stop, Restart, Fail, Settle, Inspect, StopAll}
use Rattle.script_text.specs.declared.output.Ending.TheVariants.{PeerEnded}
use Rattle.command_all.specs.declared.command.Command.{Command}
use Rattle.command_all.specs.Reading.{ReadingEnd, Partial, Reading}
use Rattle.list_machine.specs.Moves.{declares, forgets}
use Rattle.list_machine.specs.Machines.{Phase, unused, open_now, leaving, gone, Connection, fresh, idle, making, reopening, Machine, put, Moves, nowhere, only, everywhere, IsNamed}

-- the most bytes of a frame's body
abbrev pub frame_max : ℕ
frame_max = 1048576

-- what the line before was about is done with
abbrev pub next_line : Machine → Machine
next_line old = record old { doing = idle }

-- the same with another connection at a number
abbrev pub linked : ℕ → Connection → Machine → Machine
linked connection new old = record old { connections = put connection new old.connections }

-- An open connection is to end, since its peer did.
abbrev pub left_by : Phase → Connection → Connection
left_by unused k = k
left_by open_now k = record k { phase = leaving PeerEnded }
left_by (leaving how) k = k
left_by gone k = k

abbrev pub left : Connection → Connection
left k = left_by k.phase k

-- A piece is joined to what is left of an open connection's bytes, and these are read as frames of commands; a connection
-- that isn't open any more takes nothing.
abbrev pub Gives : Phase → Connection → List ℕ → Connection → Type 0
Gives unused old piece new = ⊥
Gives open_now old piece new =
    (commands : List Command) × (rest : List ℕ) × (end : ReadingEnd) × Reading frame_max (old.rest ++ piece) commands rest end
    × (new ≡ record old { rest = rest; cut = end; inbox = old.inbox ++ commands })
Gives (leaving how) old piece new = new ≡ old
Gives gone old piece new = new ≡ old

-- what a line says of streams and connections; what else it does is seen in the lines that are written
abbrev pub Reads : Machine → ScriptLine → Moves → Machine → Type 0
-- a stream is to be made
Reads old (Create name) moves after = (moves ≡ nowhere) × (after ≡ record old { doing = making name })
-- a connection is made, fresh, or with publisher 0 declared on a stream without a name
Reads old (Connect connection) moves after = ((old.connections connection).phase ≡ unused) × (moves ≡ nowhere) × (after ≡ linked connection fresh (next_line old))
Reads old (Prepare connection name) moves after =
    ((old.connections connection).phase ≡ unused) × (number : ℕ) × IsNamed old (Some name) number
    × (moves ≡ only number (declares connection 0 None ∷ [])) × (after ≡ linked connection fresh (next_line old))
Reads old (Give connection piece) moves after =
    (new : Connection) × Gives (old.connections connection).phase (old.connections connection) piece new × (moves ≡ nowhere) × (after ≡ linked connection new (next_line old))
-- a connection is to end
Reads old (Leave connection) moves after = (moves ≡ nowhere) × (after ≡ linked connection (left (old.connections connection)) (next_line old))
-- the moment is set, and doesn't go back
Reads old (Tick moment) moves after = (old.moment ≤ moment) × (moves ≡ nowhere) × (after ≡ record (next_line old) { moment = moment })
-- all stops: each list as seen is empty, all connections are to end
Reads old (StopAll calls image) moves after =
    (moves ≡ everywhere (forgets ∷ [])) × (after ≡ record old { connections = λ (connection : ℕ). left (old.connections connection); doing = reopening })
Reads old (Poll connection) moves after = (moves ≡ nowhere) × (after ≡ next_line old)
Reads old (Elect stream) moves after = (moves ≡ nowhere) × (after ≡ next_line old)
Reads old (Deliver stream message) moves after = (moves ≡ nowhere) × (after ≡ next_line old)
Reads old (Lose stream message) moves after = (moves ≡ nowhere) × (after ≡ next_line old)
Reads old (Perform stream member) moves after = (moves ≡ nowhere) × (after ≡ next_line old)
Reads old (Stop stream member calls image) moves after = (moves ≡ nowhere) × (after ≡ next_line old)
Reads old (Restart stream member) moves after = (moves ≡ nowhere) × (after ≡ next_line old)
Reads old (Fail stream member call) moves after = (moves ≡ nowhere) × (after ≡ next_line old)
Reads old (Settle stream) moves after = (moves ≡ nowhere) × (after ≡ next_line old)
Reads old (Inspect stream) moves after = (moves ≡ nowhere) × (after ≡ next_line old)

-- ---- before the next line is read

-- Each command that was read is handled, each answer is written, and a connection that is to end has ended.
abbrev pub IsAnswered : Phase → Connection → Type 0
IsAnswered unused k = Unit {0}
IsAnswered open_now k = (k.inbox ≡ []) × (k.owed ≡ []) × (k.cut ≡ Partial)
IsAnswered (leaving how) k = ⊥
IsAnswered gone k = Unit {0}

-- All lines so far are answered.
pub record IsQuiet (machine : Machine) : Type 0 where
  pub connections : (number : ℕ) → IsAnswered (machine.connections number).phase (machine.connections number)
  pub made : (name : List ℕ) → machine.doing ≡ making name → ⊥

pub record ReadStep (old : Machine) (line : ScriptLine) (moves : Moves) (after : Machine) : Type 0 where
  pub quiet : IsQuiet old
  pub reads : Reads old line moves after
