-- What holds of the commands of a stream, named by contracts.
use Rattle.std.specs.Prelude.{◌≡◌, ◌<◌, ◌^◌, ℕ, List, ◌++◌}
use Rattle.command_data.specs.declared.command.DataCommand.{DataCommand}
use Rattle.frame_commands.specs.Given.{CommandsOf}

-- a stream has one list of commands, and one rest
abbrev pub OneReading : Type 0
OneReading = (max : ℕ) (stream : List ℕ) (cs ds : List DataCommand) (r q : List ℕ) → max < 2 ^ 32 → CommandsOf max stream cs r → CommandsOf max stream ds q → (cs ≡ ds) × (r ≡ q)

-- What is left of a piece goes before the next: the commands of both are those of the pieces joined.
abbrev pub Joins : Type 0
Joins = (max : ℕ) (held x y : List ℕ) (cs ds : List DataCommand) (r q : List ℕ) → CommandsOf max (held ++ x) cs r → CommandsOf max (r ++ y) ds q → CommandsOf max (held ++ (x ++ y)) (cs ++ ds) q

-- commands that come in two pieces: those of the first, what it leaves, and those of that and the second
pub record InTwo (max : ℕ) (first second : List ℕ) (commands : List DataCommand) (rest : List ℕ) : Type 0 where
  pub before : List DataCommand
  pub left : List ℕ
  pub behind : List DataCommand
  pub of_first : CommandsOf max first before left
  pub of_second : CommandsOf max (left ++ second) behind rest
  pub joined : commands ≡ before ++ behind

-- The other way: whatever the pieces joined spell is read of them piece by piece.
abbrev pub Splits : Type 0
Splits = (max : ℕ) (held x y : List ℕ) (es : List DataCommand) (q : List ℕ) → max < 2 ^ 32 → CommandsOf max (held ++ (x ++ y)) es q → InTwo max (held ++ x) y es q
