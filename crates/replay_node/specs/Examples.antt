-- The list machine on events that are written out: some that it runs, and some that it refuses.
use Rattle.std.specs.Prelude.{ℕ, List, [], ◌∷◌, ◌++◌, codes, Some, None}
use Rattle.frame_wire.specs.Frames.{frame}
use Rattle.chunk_format.specs.declared.entry.Entry.{Entry}
use Rattle.chunk_format.specs.declared.entry.Entry.TheVariants.{Simple}
use Rattle.chunk_format.specs.declared.chunk.Chunk.{Chunk}
use Rattle.chunk_format.specs.Chunks.{chunk_bytes}
use Rattle.command_data.specs.declared.item.Tagged.{Tagged}
use Rattle.script_text.specs.declared.script.ScriptLine.TheVariants.{Create, Prepare, Give, Poll, Settle}
use Rattle.command_fields.specs.Tables.{body_of}
use Rattle.command_data.specs.declared.command.DataCommand.{DataCommand}
use Rattle.command_data.specs.declared.command.DataCommand.TheVariants.{DeclarePublisher, Publish, PublishConfirm, PublishError, Plain}
use Rattle.command_data.specs.Commands.{data_table}
use Rattle.script_text.specs.declared.output.OutputLine.TheVariants.{Committed}
use Rattle.replay_node.specs.NodeState.{opening, user_chunk, send}
use Rattle.replay_node.specs.Machine.{Machine, empty_machine}
use Rattle.replay_node.specs.MachineSteps.{Event, read, wrote, handled, MachineRun}

-- the events are a run of the list machine from nothing
abbrev pub HasRun : List Event → Type 0
HasRun events = (machine : Machine) × MachineRun empty_machine events machine

-- they are no run of it
abbrev pub HasNoRun : List Event → Type 0
HasNoRun events = (machine : Machine) → MachineRun empty_machine events machine → ⊥

-- ---- what the events are made of

abbrev pub entry_a : Entry
entry_a = Simple (codes "a")

abbrev pub entry_b : Entry
entry_b = Simple (codes "b")

-- the message with id 1
abbrev pub message_a : Tagged
message_a = record { id = 1; entry = entry_a }

-- a chunk is committed to stream 1
abbrev pub commits : Chunk → Event
commits chunk = wrote (Committed 1 (chunk_bytes chunk))

-- a command is given on connection 1
abbrev pub gives : DataCommand → Event
gives command = read (Give 1 (frame (body_of data_table command)))

-- a command is sent on connection 1
abbrev pub sends : DataCommand → Event
sends command = wrote (send 1 command)

-- a message of this publisher
abbrev pub publishes : ℕ → DataCommand
publishes publisher = Publish publisher (message_a ∷ [])

-- one id of a publisher is confirmed
abbrev pub confirms : ℕ → ℕ → Event
confirms publisher id = sends (PublishConfirm publisher (id ∷ []))

-- publisher 7 is to be declared on stream "s", without a reference
abbrev pub declares_seven : DataCommand
declares_seven = DeclarePublisher 5 7 None (Some (codes "s"))

-- ---- events that are runs

-- stream "s" is made, and opens
abbrev pub a_stream_made : List Event
a_stream_made = read (Create (codes "s")) ∷ commits opening ∷ []

-- then message 1, with entry "a", is given
abbrev pub a_message_given : List Event
a_message_given = a_stream_made ++ read (Prepare 1 (codes "s")) ∷ gives (publishes 0) ∷ handled 1 ∷ []

-- then a chunk with this entry is committed, and the connection is polled
abbrev pub a_chunk_committed : Entry → List Event
a_chunk_committed entry = a_message_given ++ read (Settle 1) ∷ commits (user_chunk 1 (entry ∷ [])) ∷ read (Poll 1) ∷ []

-- the chunk has the message's entry, and the message is confirmed
abbrev pub the_worked_run : List Event
the_worked_run = a_chunk_committed entry_a ++ confirms 0 1 ∷ []

-- a stream and a connection, and publisher 7 is declared: its message is committed, and confirmed
abbrev pub a_declaration : List Event
a_declaration = a_stream_made ++ read (Prepare 1 (codes "s")) ∷ gives declares_seven ∷ sends (Plain 0x8001 5 1) ∷ []

abbrev pub a_message_committed : List Event
a_message_committed = gives (publishes 7) ∷ handled 1 ∷ read (Settle 1) ∷ commits (user_chunk 1 (entry_a ∷ [])) ∷ read (Poll 1) ∷ []

abbrev pub a_declaration_and_its_confirm : List Event
a_declaration_and_its_confirm = a_declaration ++ (a_message_committed ++ confirms 7 1 ∷ [])

-- a message of publisher 7, which was not declared, is refused
abbrev pub a_refused_message : List Event
a_refused_message = a_stream_made ++ read (Prepare 1 (codes "s")) ∷ gives (publishes 7) ∷ sends (PublishError 7 (record { id = 1; code = 0x12 } ∷ [])) ∷ []

-- ---- events that are no runs, each a run without its last event

-- a chunk at offset 5, where the list ends at 1
abbrev pub a_chunk_out_of_place : List Event
a_chunk_out_of_place = a_stream_made ++ commits (user_chunk 5 (entry_a ∷ [])) ∷ []

-- the opening chunk again
abbrev pub a_chunk_twice : List Event
a_chunk_twice = a_stream_made ++ commits opening ∷ []

-- message 1 is confirmed, and its entry is not in the list yet
abbrev pub a_confirm_before_its_commit : List Event
a_confirm_before_its_commit = a_message_given ++ confirms 0 1 ∷ []

-- id 2 is confirmed, and only id 1 was published
abbrev pub a_confirm_of_no_publish : List Event
a_confirm_of_no_publish = a_chunk_committed entry_a ++ confirms 0 2 ∷ []

-- message 1 is confirmed again
abbrev pub a_confirm_twice : List Event
a_confirm_twice = the_worked_run ++ confirms 0 1 ∷ []

-- the message with entry "a" is confirmed, and the list has only entry "b"
abbrev pub a_confirm_of_no_entry : List Event
a_confirm_of_no_entry = a_chunk_committed entry_b ++ confirms 0 1 ∷ []

-- publisher 7 was not declared, and its message was refused: a chunk with its entry is committed, and the message confirmed
abbrev pub refused_and_committed : List Event
refused_and_committed = a_refused_message ++ read (Settle 1) ∷ commits (user_chunk 1 (entry_a ∷ [])) ∷ read (Poll 1) ∷ []

abbrev pub a_confirm_of_an_undeclared_publisher : List Event
a_confirm_of_an_undeclared_publisher = refused_and_committed ++ confirms 7 1 ∷ []
