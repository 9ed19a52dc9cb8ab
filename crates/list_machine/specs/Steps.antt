-- The list machine: its events, its steps and its runs.
use Rattle.std.specs.Prelude.{◌≡◌, ◌≢◌, ℕ, ◌+◌, ◌⊎◌, List, [], ◌∷◌, ◌++◌, Option, Some, None}
use Rattle.chunk_format.specs.declared.chunk.Chunk.{Chunk}
use Rattle.command_fields.specs.declared.response.ResponseCode.{ResponseCode}
use Rattle.command_fields.specs.declared.response.ResponseCode.TheVariants as says
use Rattle.command_admin.specs.declared.command.AdminCommand.TheVariants as admin_commands
use Rattle.command_all.specs.declared.command.Command.{Command}
use Rattle.command_all.specs.declared.command.Command.TheVariants.{Admin}
use Rattle.script_text.specs.declared.script.ScriptLine.{ScriptLine}
use Rattle.script_text.specs.declared.output.Ending.{Ending}
use Rattle.script_text.specs.declared.output.OutputLine.{OutputLine}
use Rattle.script_text.specs.declared.output.OutputLine.TheVariants as lines
use Rattle.list_machine.specs.Moves.{Move, commits, StreamRun}
use Rattle.list_machine.specs.Machines.{open_now, Change, adds, idle, making, reopening, Machine, Moves, nowhere, only, begun, changed, last_behind, AreNew, IsPossible}
use Rattle.list_machine.specs.Lines.{ReadStep}
use Rattle.list_machine.specs.Answers.{HandleStep, MisreadStep}
use Rattle.list_machine.specs.Sends.{SendStep, EndStep}

pub data Event : Type 0 where
  -- a line is read
  read : ScriptLine → Event
  -- a command of a connection is handled, with its answer if it has one now
  handled : ℕ → Command → Option Command → Event
  -- a frame of a connection that can't be read is answered
  misread : ℕ → Command → Event
  -- the stream of a line is made; it is not, and the line `no CODE` is written
  made : Event
  refused : ResponseCode → Event
  -- a change of which it wasn't known whether it happened has happened
  found : Change → Event
  -- a line is written: a chunk is committed to a stream, a frame is sent on a connection, a connection ends, or another
  committed : ℕ → Chunk → Event
  sent : ℕ → Command → Event
  ended : ℕ → Ending → Event
  told : OutputLine → Event

-- ---- streams that are made or not

pub record MadeStep (old : Machine) (moves : Moves) (after : Machine) : Type 0 where
  pub name : List ℕ
  pub is_making : old.doing ≡ making name
  pub is_new : AreNew old (Some name ∷ [])
  pub moves_are : moves ≡ begun old.last None (Some name ∷ [])
  pub after_is : after ≡ record old { last = old.last + 1; unsure = []; doing = idle }

-- after an internal error it isn't known whether it is made
abbrev pub unsure_by : ResponseCode → List ℕ → List Change → List Change
unsure_by says.InternalError name unsure = unsure ++ adds None (Some name ∷ []) ∷ []
unsure_by other name unsure = []

pub record RefusedStep (old : Machine) (code : ResponseCode) (moves : Moves) (after : Machine) : Type 0 where
  pub name : List ℕ
  pub is_making : old.doing ≡ making name
  pub is_fault : code ≢ says.Ok
  pub moves_are : moves ≡ nowhere
  pub after_is : after ≡ record old { unsure = unsure_by code name old.unsure; doing = idle }

-- a command that changes the streams
abbrev pub IsChange : Command → Type 0
IsChange (Admin (admin_commands.Create corr stream properties)) = Unit {0}
IsChange (Admin (admin_commands.Delete corr stream)) = Unit {0}
IsChange (Admin (admin_commands.CreateSuper corr name partitions keys properties)) = Unit {0}
IsChange (Admin (admin_commands.DeleteSuper corr name)) = Unit {0}
IsChange other = ⊥

-- a connection's next command changes the streams
pub record NextIsChange (old : Machine) : Type 0 where
  pub connection : ℕ
  pub is_open : (old.connections connection).phase ≡ open_now
  pub command : Command
  pub later : List Command
  pub is_next : (old.connections connection).inbox ≡ command ∷ later
  pub is_change : IsChange command

-- a change of the streams comes next, or all was stopped and is opened anew
abbrev pub IsChanging : Machine → Type 0
IsChanging old = NextIsChange old ⊎ (((name : List ℕ) × (old.doing ≡ making name)) ⊎ (old.doing ≡ reopening))

pub record FoundStep (old : Machine) (change : Change) (moves : Moves) (after : Machine) : Type 0 where
  pub is_changing : IsChanging old
  pub before : List Change
  pub behind : List Change
  pub is_possible : IsPossible old change
  pub was_unsure : old.unsure ≡ before ++ change ∷ behind
  pub moves_are : moves ≡ changed old.last change
  pub after_is : after ≡ record old { last = last_behind old.last change; unsure = before ++ behind }

-- lines on members, which say nothing of streams
abbrev pub IsOfMembers : OutputLine → Type 0
IsOfMembers (lines.Message stream number receiver kind epoch) = Unit {0}
IsOfMembers (lines.Later stream member) = Unit {0}
IsOfMembers (lines.Down stream member) = Unit {0}
IsOfMembers (lines.Up stream member count end) = Unit {0}
IsOfMembers (lines.CoordinatorUp stream epoch) = Unit {0}
IsOfMembers (lines.Log stream member count end) = Unit {0}
IsOfMembers (lines.LogDown stream member) = Unit {0}
IsOfMembers other = ⊥

-- ---- steps

-- What an event asks of the machine before it, which moves it makes at which streams, and the machine after it, but for
-- its streams.
abbrev pub Does : Machine → Event → Moves → Machine → Type 0
Does old (read line) moves after = ReadStep old line moves after
Does old (handled c command answer) moves after = HandleStep old c command answer moves after
Does old (misread c answer) moves after = MisreadStep old c answer moves after
Does old made moves after = MadeStep old moves after
Does old (refused code) moves after = RefusedStep old code moves after
Does old (found change) moves after = FoundStep old change moves after
Does old (committed number chunk) moves after = (moves ≡ only number (commits chunk ∷ [])) × (after ≡ old)
Does old (sent c command) moves after = SendStep old c command moves after
Does old (ended c how) moves after = EndStep old c how moves after
Does old (told line) moves after = IsOfMembers line × (moves ≡ nowhere) × (after ≡ old)

-- Each stream changes by its moves, and all else as the event says.
pub record MachineStep (old : Machine) (event : Event) (new : Machine) : Type 0 where
  pub moves : Moves
  pub after : Machine
  pub does : Does old event moves after
  pub streams : (number : ℕ) → StreamRun (old.streams number) (moves number) (new.streams number)
  pub connections : (number : ℕ) → new.connections number ≡ after.connections number
  pub last : new.last ≡ after.last
  pub unsure : new.unsure ≡ after.unsure
  pub doing : new.doing ≡ after.doing
  pub moment : new.moment ≡ after.moment

-- events one after the other
abbrev pub MachineRun : Machine → List Event → Machine → Type 0
MachineRun old [] new = new ≡ old
MachineRun old (event ∷ events) new = (mid : Machine) × MachineStep old event mid × MachineRun mid events new

-- the moves at a stream along a run
abbrev pub moves_at : (number : ℕ) (old : Machine) (events : List Event) (new : Machine) → MachineRun old events new → List Move
moves_at number old [] new run = []
moves_at number old (event ∷ events) new run = run.1.moves number ++ moves_at number run.0 events new run.2
