-- Runs of a reader, and what their bytes say of them.
use Rattle.std.specs.Prelude.{◌≡◌, ◌<◌, ◌^◌, ℕ, List, [], ◌∷◌, ◌++◌}
use Rattle.command_all.specs.declared.command.Command.{Command}
use Rattle.command_all.specs.Reading.{Reading, ReadingEnd, Partial, Unspelt, TooLarge}
use Rattle.command_reader.specs.declared.reader.Next.{Next}
use Rattle.command_reader.specs.declared.reader.Next.TheVariants as answers
use Rattle.command_reader.specs.States.{ReaderState, Takes, Gives, new_reader}

-- A call of a reader: a piece that it took, or an ask that it answered. A call that wanted memory changes nothing.
pub data Call : Type 0 where
  Fed : List ℕ → Call
  Asked : Next → Call

abbrev pub Does : ReaderState → Call → ReaderState → Type 0
Does old (Fed piece) new = Takes old piece new
Does old (Asked answer) new = Gives old answer new

-- these calls, one after another
abbrev pub Runs : ReaderState → List Call → ReaderState → Type 0
Runs old [] new = new ≡ old
Runs old (call ∷ calls) new = (mid : ReaderState) × Does old call mid × Runs mid calls new

-- the joined pieces of a run
abbrev pub bytes_of : List Call → List ℕ
bytes_of [] = []
bytes_of (Fed piece ∷ calls) = piece ++ bytes_of calls
bytes_of (Asked answer ∷ calls) = bytes_of calls

abbrev pub with_command : Next → List Command → List Command
with_command (answers.Command command) commands = command ∷ commands
with_command (answers.Unspelt fault) commands = commands
with_command (answers.TooLarge size) commands = commands
with_command answers.More commands = commands

-- the commands that a run gave, in order
abbrev pub commands_of : List Call → List Command
commands_of [] = []
commands_of (Fed piece ∷ calls) = commands_of calls
commands_of (Asked answer ∷ calls) = with_command answer (commands_of calls)

-- bytes are read as these commands, and end them so
abbrev pub ReadsTo : ℕ → List ℕ → List Command → ReadingEnd → Type 0
ReadsTo max bytes commands end = (rest : List ℕ) × Reading max bytes commands rest end

-- The answer to an ask, after these bytes and these commands: it is the next command of every reading of the bytes, or there
-- are no others and the bytes end so.
abbrev pub IsAnswer : ℕ → List ℕ → List Command → Next → Type 0
IsAnswer max bytes given (answers.Command command) = (commands : List Command) (rest : List ℕ) (end : ReadingEnd) → Reading max bytes commands rest end → (more : List Command) × (commands ≡ given ++ command ∷ more)
IsAnswer max bytes given (answers.Unspelt fault) = ReadsTo max bytes given (Unspelt fault)
IsAnswer max bytes given (answers.TooLarge size) = ReadsTo max bytes given (TooLarge size)
IsAnswer max bytes given answers.More = ReadsTo max bytes given Partial

abbrev pub AnswersAreOfTheBytes : Type 0
AnswersAreOfTheBytes = (max : ℕ) → max < 2 ^ 32 → (calls : List Call) (now after : ReaderState) (answer : Next) → Runs (new_reader max) calls now → Gives now answer after → IsAnswer max (bytes_of calls) (commands_of calls) answer

-- the answer is no command
abbrev pub IsLast : Next → Type 0
IsLast answer = (command : Command) → answer ≡ answers.Command command → ⊥

-- a run of a new reader, and a last answer
pub record RunsTo (max : ℕ) (calls : List Call) (answer : Next) : Type 0 where
  pub now : ReaderState
  pub after : ReaderState
  pub runs : Runs (new_reader max) calls now
  pub gives : Gives now answer after
  pub last : IsLast answer

abbrev pub TheBytesAloneCount : Type 0
TheBytesAloneCount = (max : ℕ) → max < 2 ^ 32 → (calls others : List Call) (answer other : Next) → RunsTo max calls answer → RunsTo max others other → bytes_of calls ≡ bytes_of others → (commands_of calls ≡ commands_of others) × (answer ≡ other)
