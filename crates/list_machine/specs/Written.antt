-- What is written on a connection: the answers that its handled commands fixed; and what is sent unasked, as a step of a
-- stream.
use Rattle.std.specs.Prelude.{◌≡◌, ℕ, ◌==◌, ◌&&◌, if◌then◌else◌, Bool, true, false, List, [], ◌∷◌, flat_map, Option, Some, None}
use Rattle.chunk_format.specs.declared.chunk.Chunk.{Chunk}
use Rattle.chunk_format.specs.declared.chunk.Header.{Header}
use Rattle.chunk_format.specs.Chunks.{header_of, entries_bytes}
use Rattle.command_data.specs.Deliveries.{delivery_of}
use Rattle.command_data.specs.declared.item.Tagged.{Tagged}
use Rattle.command_data.specs.declared.command.DataCommand.TheVariants as data_commands
use Rattle.command_admin.specs.declared.command.AdminCommand.TheVariants as admin_commands
use Rattle.command_all.specs.declared.command.Command.{Command}
use Rattle.command_all.specs.declared.command.Command.TheVariants.{Data, Admin}
use Rattle.list_machine.specs.Items.{IsIn}
use Rattle.list_machine.specs.Laws.{ConfirmedBy}
use Rattle.list_machine.specs.Moves.{confirms, delivers}
use Rattle.list_machine.specs.Publishing.{ConfirmStep}
use Rattle.list_machine.specs.Subscribing.{DeliverStep}
use Rattle.list_machine.specs.Machines.{Machine, empty_machine, only}
use Rattle.list_machine.specs.Sends.{ids_of_items, InVersion}
use Rattle.list_machine.specs.Steps.{Event, read, handled, misread, made, refused, found, committed, sent, ended, told, MachineStep, MachineRun, moves_at}
use Rattle.list_machine.specs.Waits.{Parts}

-- ---- answers

-- no command that is sent unasked
abbrev pub is_answer : Command → Bool
is_answer (Data (data_commands.PublishConfirm id ids)) = false
is_answer (Data (data_commands.Deliver id header payload)) = false
is_answer (Data (data_commands.Deliver2 id last header payload)) = false
is_answer (Admin (admin_commands.MetadataUpdate code stream)) = false
is_answer (Admin (admin_commands.ConsumerUpdate corr id flag)) = false
is_answer (Admin (admin_commands.Tune frame heartbeat)) = false
is_answer (Admin admin_commands.Heartbeat) = false
is_answer other = true

abbrev pub listed : Option Command → List Command
listed None = []
listed (Some command) = command ∷ []

-- the answer that an event fixes on a connection
abbrev pub answer_fixed : ℕ → Event → List Command
answer_fixed c (handled other command answer) = if c == other then listed answer else []
answer_fixed c (misread other answer) = if c == other then answer ∷ [] else []
answer_fixed c (read line) = []
answer_fixed c made = []
answer_fixed c (refused code) = []
answer_fixed c (found change) = []
answer_fixed c (committed number chunk) = []
answer_fixed c (sent other command) = []
answer_fixed c (ended other how) = []
answer_fixed c (told line) = []

-- the answer that an event writes on a connection
abbrev pub answer_written : ℕ → Event → List Command
answer_written c (sent other command) = if (c == other) && is_answer command then command ∷ [] else []
answer_written c (read line) = []
answer_written c (handled other command answer) = []
answer_written c (misread other answer) = []
answer_written c made = []
answer_written c (refused code) = []
answer_written c (found change) = []
answer_written c (committed number chunk) = []
answer_written c (ended other how) = []
answer_written c (told line) = []

-- all answers that events fix and write on a connection, in order
abbrev pub AnswersFixed : ℕ → List Event → List Command
AnswersFixed c events = flat_map (answer_fixed c) events

abbrev pub AnswersWritten : ℕ → List Event → List Command
AnswersWritten c events = flat_map (answer_written c) events

-- ---- what is sent unasked

-- the frame of a confirm, and of a delivery of either version
abbrev pub confirm_frame : ℕ → List ℕ → Command
confirm_frame id ids = Data (data_commands.PublishConfirm id ids)

abbrev pub delivery_frame : ℕ → Option ℕ → Header → List ℕ → Command
delivery_frame id last header payload = Data (delivery_of id last header payload)

-- A confirm of these ids is that of one frame that waits, of a declaration of this connection and id that stands; and no
-- stream moves besides.
pub record IsConfirm (c id : ℕ) (ids : List ℕ) (old new : Machine) (step : MachineStep old (sent c (confirm_frame id ids)) new) : Type 0 where
  pub number : ℕ
  pub name : Option (List ℕ)
  pub items : List Tagged
  pub ids_are : ids ≡ ids_of_items items
  pub moves_are : step.moves ≡ only number (confirms c id name items ∷ [])
  pub confirm : ConfirmStep (old.streams number) c id name items (new.streams number)

-- A delivery is that of the next user chunk, to an active subscription of this connection and id with a credit, in the
-- connection's version; and no stream moves besides.
pub record IsDelivery (c id : ℕ) (last : Option ℕ) (header : Header) (payload : List ℕ) (old new : Machine) (step : MachineStep old (sent c (delivery_frame id last header payload)) new) : Type 0 where
  pub number : ℕ
  pub chunk : Chunk
  pub header_is : header ≡ header_of chunk
  pub payload_is : payload ≡ entries_bytes chunk.entries
  pub version : InVersion (old.connections c).version (old.streams number) last
  pub moves_are : step.moves ≡ only number (delivers c id chunk ∷ [])
  pub delivery : DeliverStep (old.streams number) c id chunk (new.streams number)

-- the ids are those of a frame that some stream confirmed along a run
pub record AmongConfirmed (ids : List ℕ) (old : Machine) (events : List Event) (new : Machine) (run : MachineRun old events new) : Type 0 where
  pub number : ℕ
  pub name : Option (List ℕ)
  pub items : List Tagged
  pub ids_are : ids ≡ ids_of_items items
  pub among : IsIn (record { name = name; items = items }) (ConfirmedBy (moves_at number old events new run))

-- an event behind others of a run is a step with this property
abbrev pub StepBehind : (event : Event) → ((old new : Machine) → MachineStep old event new → Type 0) → List Event → List Event → Machine → Type 0
StepBehind event P before behind new = (parts : Parts empty_machine before (event ∷ behind) new) × P parts.mid parts.second.0 parts.second.1
