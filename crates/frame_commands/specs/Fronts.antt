-- What stands at the front of bytes, and what reading a body adds.
use Rattle.std.specs.Prelude.{◌≡◌, ℕ, Bool, true, false, List, [], ◌∷◌, ◌++◌}
use Rattle.frame_wire.specs.Frames.{frame, size_of, IsPartial, IsTooLarge, IsBody}
use Rattle.command_data.specs.declared.command.DataCommand.{DataCommand}
use Rattle.command_data.specs.Commands.{DataSpells}
use Rattle.frame_commands.specs.declared.given.Front.{Front}
use Rattle.frame_commands.specs.declared.given.Front.TheVariants.{Frame, Partial, TooLarge}

-- a whole frame of at most max bytes and the bytes behind it, or why there is none
abbrev pub StandsFirst : ℕ → List ℕ → Front → Type 0
StandsFirst max bytes (Frame body behind) = (bytes ≡ frame body.now ++ behind.now) × IsBody max body.now
StandsFirst max bytes Partial = IsPartial max bytes
StandsFirst max bytes TooLarge = IsTooLarge max bytes (size_of bytes)

-- the command that a body spells stands behind the others, or there is none
abbrev pub Adds : List ℕ → List DataCommand → List DataCommand → Bool → Type 0
Adds body old new true = (command : DataCommand) × (new ≡ old ++ command ∷ []) × DataSpells command body
Adds body old new false = (command : DataCommand) → DataSpells command body → ⊥
