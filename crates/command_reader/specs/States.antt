-- What a reader of commands holds, and what its calls do.
use Rattle.std.specs.Prelude.{◌≡◌, ◌⊎◌, ℕ, List, [], ◌++◌, Option, None, Some, IsSome}
use Rattle.frame_wire.specs.Frames.{size_of, IsPartial, IsTooLarge, BeginsFrame}
use Rattle.command_fields.specs.declared.fault.DecodeFault.{DecodeFault}
use Rattle.command_all.specs.declared.command.Command.{Command}
use Rattle.command_all.specs.Commands.{Spells}
use Rattle.command_all.specs.Reading.{BeginsUnspelt}
use Rattle.command_reader.specs.declared.reader.Next.{Next}
use Rattle.command_reader.specs.declared.reader.Next.TheVariants as answers

-- the greatest size, the bytes that no command was given of yet, and the first wrong field of the frame in front of them,
-- once it was given
pub record ReaderState : Type 0 where
  pub max : ℕ
  pub rest : List ℕ
  pub unspelt : Option DecodeFault

abbrev pub new_reader : ℕ → ReaderState
new_reader max = record { max = max; rest = []; unspelt = None }

-- No more commands come: a frame that no command spells was given, or a size above the greatest stands in front.
abbrev pub IsEnded : ReaderState → Type 0
IsEnded state = IsSome state.unspelt ⊎ IsTooLarge state.max state.rest (size_of state.rest)

abbrev pub taken : ReaderState → List ℕ → ReaderState
taken state piece = record { max = state.max; rest = state.rest ++ piece; unspelt = state.unspelt }

-- the piece stands behind what was left, unless the commands have ended
abbrev pub Takes : ReaderState → List ℕ → ReaderState → Type 0
Takes old piece new = (IsEnded old → new ≡ old) × (¬ IsEnded old → new ≡ taken old piece)

-- the frame in front spells the command, and the bytes behind it are left
pub record GivesCommand (old : ReaderState) (command : Command) (new : ReaderState) : Type 0 where
  pub unspelt : old.unspelt ≡ None
  pub frame : BeginsFrame old.max old.rest
  pub spells : Spells command frame.body
  pub left : new ≡ record { max = old.max; rest = frame.more; unspelt = None }

abbrev pub Gives : ReaderState → Next → ReaderState → Type 0
Gives old (answers.Command command) new = GivesCommand old command new
Gives old (answers.Unspelt fault) new = BeginsUnspelt old.max old.rest fault × (new ≡ record { max = old.max; rest = old.rest; unspelt = Some fault })
Gives old (answers.TooLarge size) new = (old.unspelt ≡ None) × IsTooLarge old.max old.rest size × (new ≡ old)
Gives old answers.More new = (old.unspelt ≡ None) × IsPartial old.max old.rest × (new ≡ old)
