-- What is written on a connection: an answer that is owed, what is sent unasked, and the end.
use Rattle.std.specs.Prelude.{◌≡◌, ℕ, ◌==◌, ◌≤◌, ◌⊎◌, List, [], ◌∷◌, length, map, Option, Some, None}
use Rattle.std.specs.List.{AllByRecursion}
use Rattle.chunk_format.specs.declared.chunk.Chunk.{Chunk}
use Rattle.chunk_format.specs.Chunks.{header_of, entries_bytes}
use Rattle.command_fields.specs.declared.response.ResponseCode.TheVariants as says
use Rattle.command_fields.specs.Codes.{number_of_code}
use Rattle.command_data.specs.declared.item.Tagged.{Tagged}
use Rattle.command_data.specs.declared.command.DataCommand.TheVariants.{PublishConfirm}
use Rattle.command_data.specs.Deliveries.{delivery_of}
use Rattle.stream_terms.specs.Lists.{last_first}
use Rattle.command_admin.specs.declared.command.AdminCommand.TheVariants.{MetadataUpdate, ConsumerUpdate, Tune, Heartbeat}
use Rattle.command_all.specs.declared.command.Command.{Command}
use Rattle.command_all.specs.declared.command.Command.TheVariants.{Data, Admin}
use Rattle.script_text.specs.declared.output.Ending.{Ending}
use Rattle.script_text.specs.declared.output.Ending.TheVariants.{Silent}
use Rattle.list_machine.specs.Streams.{Stream}
use Rattle.list_machine.specs.Moves.{Move, confirms, delivers, asks, undeclares, unsubscribes, leaves}
use Rattle.list_machine.specs.Machines.{Phase, open_now, leaving, gone, Machine, Moves, nowhere, only, everywhere}
use Rattle.list_machine.specs.Lines.{linked}
use Rattle.list_machine.specs.Answers.{next_asked}

abbrev pub ids_of_items : List Tagged → List ℕ
ids_of_items items = map (λ (x : Tagged). x.id) items

-- By the version of Deliver of the connection: the chunk's header and payload; in version 2 also the first offset of the
-- last chunk of the list as seen.
abbrev pub InVersion : ℕ → Stream → Option ℕ → Type 0
InVersion version stream None = version ≡ 1
InVersion version stream (Some committed) = (version ≡ 2) × (last_first stream.seen ≡ Some committed)

-- a publisher or a subscription of this connection is gone
abbrev pub IsGone : ℕ → Move → Type 0
IsGone c move = ((id : ℕ) × (move ≡ undeclares c id)) ⊎ ((id : ℕ) × (move ≡ unsubscribes c id))

-- What is sent unasked, and what it does.
pub data Sends (old : Machine) (c : ℕ) (command : Command) (moves : Moves) (after : Machine) : Type 0 where
  -- Confirm: the ids of one Publish frame
  Confirms : (number id : ℕ) (name : Option (List ℕ)) (items : List Tagged) → command ≡ Data (PublishConfirm id (ids_of_items items))
      → moves ≡ only number (confirms c id name items ∷ []) → after ≡ old → Sends old c command moves after
  -- Deliver: a chunk
  Delivers : (number id : ℕ) (chunk : Chunk) (committed : Option ℕ) → command ≡ Data (delivery_of id committed (header_of chunk) (entries_bytes chunk.entries))
      → InVersion (old.connections c).version (old.streams number) committed
      → moves ≡ only number (delivers c id chunk ∷ []) → after ≡ old → Sends old c command moves after
  -- MetadataUpdate: some of the connection's publishers and subscriptions on the stream of this name are gone
  Loses : (number : ℕ) (lost : List Move) → command ≡ Admin (MetadataUpdate (number_of_code says.StreamNotAvailable) (Some (old.streams number).name))
      → 1 ≤ length lost → AllByRecursion (IsGone c) lost → moves ≡ only number lost → after ≡ old → Sends old c command moves after
  -- ConsumerUpdate: a consumer of a group is asked to be active, by 1, or to stop, by 0
  Asks : (number id flag : ℕ) → command ≡ Admin (ConsumerUpdate (next_asked old c) id flag) → flag ≤ 1
      → moves ≡ only number (asks c id (next_asked old c) (flag == 1) ∷ []) → after ≡ linked c (record (old.connections c) { asked = next_asked old c }) old → Sends old c command moves after
  Tunes : (frame heartbeat : ℕ) → command ≡ Admin (Tune frame heartbeat) → moves ≡ nowhere → after ≡ old → Sends old c command moves after
  Beats : command ≡ Admin Heartbeat → moves ≡ nowhere → after ≡ old → Sends old c command moves after

-- A frame that is written is the first answer that is owed, or it is sent unasked on an open connection.
pub data SendStep (old : Machine) (c : ℕ) (command : Command) (moves : Moves) (after : Machine) : Type 0 where
  Owed : (later : List Command) → (old.connections c).owed ≡ command ∷ later → moves ≡ nowhere → after ≡ linked c (record (old.connections c) { owed = later }) old → SendStep old c command moves after
  Unasked : (old.connections c).phase ≡ open_now → Sends old c command moves after → SendStep old c command moves after

-- the end that was decided; a silent peer's may come at any time
abbrev pub MayEnd : Phase → Ending → Type 0
MayEnd phase how = (phase ≡ leaving how) ⊎ ((phase ≡ open_now) × (how ≡ Silent))

-- The connection ends, and all that is its own on streams. Its answers are written.
pub record EndStep (old : Machine) (c : ℕ) (how : Ending) (moves : Moves) (after : Machine) : Type 0 where
  pub may : MayEnd (old.connections c).phase how
  pub all_written : (old.connections c).owed ≡ []
  pub moves_are : moves ≡ everywhere (leaves c ∷ [])
  pub after_is : after ≡ linked c (record (old.connections c) { phase = gone }) old
