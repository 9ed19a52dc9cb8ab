-- The commands that a stream of bytes spells, frame by frame.
use Rattle.std.specs.Prelude.{ℕ, List, [], ◌∷◌}
use Rattle.frame_wire.specs.Frames.{Frames}
use Rattle.command_data.specs.declared.command.DataCommand.{DataCommand}
use Rattle.command_data.specs.Commands.{DataSpells}

-- each body spells the command at its place
abbrev pub AreSpelled : List (List ℕ) → List DataCommand → Type 0
AreSpelled [] [] = Unit {0}
AreSpelled (body ∷ bodies) (command ∷ commands) = DataSpells command body × AreSpelled bodies commands
AreSpelled [] (command ∷ commands) = ⊥
AreSpelled (body ∷ bodies) [] = ⊥

-- The stream is whole frames, each of at most max bytes, that spell these commands, and a rest that begins no whole frame
-- and no size above max.
pub record CommandsOf (max : ℕ) (stream : List ℕ) (commands : List DataCommand) (rest : List ℕ) : Type 0 where
  pub bodies : List (List ℕ)
  pub framed : Frames max stream bodies rest
  pub spelled : AreSpelled bodies commands
