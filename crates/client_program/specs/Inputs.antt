-- An input that is read to its end.
use Rattle.std.specs.Prelude.{◌≡◌, ℕ, ◌+◌, ◌<◌, ◌≤◌, List, ◌++◌, length, Option, Result, Ok, Err}
use Rattle.outside_io.specs.Known.{before_known, IsEmptyKnown}
use Rattle.client_program.specs.declared.input.InputFault.{InputFault}
use Rattle.client_program.specs.declared.input.InputFault.TheVariants.{Read, TooLong, Memory}

-- the most bytes that are taken of the input
abbrev pub most_input : ℕ
most_input = 268435456

-- all was taken and no byte is left; more than the most was taken exactly where the input is too long
abbrev pub TakesBy : Result (List ℕ) InputFault → List ℕ → Option (List ℕ) → Type 0
TakesBy (Ok text) taken left = (text ≡ taken) × IsEmptyKnown left × (length taken ≤ most_input)
TakesBy (Err Read) taken left = length taken ≤ most_input
TakesBy (Err TooLong) taken left = most_input < length taken
TakesBy (Err Memory) taken left = length taken ≤ most_input

-- what was taken of an input, where that is told
pub record Takes (result : Result (List ℕ) InputFault) (left_old left_new : Option (List ℕ)) : Type 0 where
  pub taken : List ℕ
  pub took : left_old ≡ before_known taken left_new
  pub by : TakesBy result taken left_new

-- bytes were taken behind those that are held
abbrev pub Holds : Result (Unit {0}) InputFault → List ℕ → List ℕ → List ℕ → Type 0
Holds (Ok u) piece old new = (new ≡ old ++ piece) × (length new ≤ most_input)
Holds (Err Read) piece old new = ⊥
Holds (Err TooLong) piece old new = most_input < length old + length piece
Holds (Err Memory) piece old new = length old + length piece ≤ most_input
