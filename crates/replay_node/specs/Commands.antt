-- The frames that publish and confirm, and the bytes of their bodies.
use Rattle.std.specs.Prelude.{ℕ, List}
use Rattle.chunk_format.specs.declared.entry.Entry.{Entry}
use Rattle.chunk_format.specs.declared.entry.Entry.TheVariants.{Simple, Batch}
use Rattle.command_data.specs.declared.item.Tagged.{Tagged}
use Rattle.command_data.specs.declared.command.DataCommand.TheVariants.{Publish, PublishConfirm}
use Rattle.command_data.specs.Commands.{DataSpells}

-- a body that publishes these items
abbrev pub SpellsPublish : List ℕ → ℕ → List Tagged → Type 0
SpellsPublish body publisher items = DataSpells (Publish publisher items) body

-- a body that confirms these ids
abbrev pub SpellsConfirm : List ℕ → ℕ → List ℕ → Type 0
SpellsConfirm body publisher ids = DataSpells (PublishConfirm publisher ids) body

-- the most bytes of a frame's body
abbrev pub frame_max : ℕ
frame_max = 1048576

abbrev pub IsSimple : Entry → Type 0
IsSimple (Simple bytes) = Unit {0}
IsSimple (Batch compression spare records uncompressed body) = ⊥
