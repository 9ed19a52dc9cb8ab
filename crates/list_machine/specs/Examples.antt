-- Worked runs, with each kind of event, and the machines along them.
use Rattle.std.specs.Prelude.{ℕ, ◌==◌, if◌then◌else◌, Bool, true, pos, List, [], ◌∷◌, ◌++◌, codes, Some, None}
use Rattle.frame_wire.specs.Fields.{u32_bytes}
use Rattle.chunk_format.specs.declared.entry.Entry.{Entry}
use Rattle.chunk_format.specs.declared.entry.Entry.TheVariants.{Simple}
use Rattle.chunk_format.specs.declared.chunk.ChunkKind.TheVariants.{User, Delta, Snapshot}
use Rattle.chunk_format.specs.declared.chunk.Chunk.{Chunk}
use Rattle.chunk_format.specs.Chunks.{header_of, entries_bytes}
use Rattle.chunk_format.specs.Tags.{tag_bytes, delta_bytes, DeltaOffset}
use Rattle.command_fields.specs.declared.offset.OffsetSpec.TheVariants.{First}
use Rattle.command_fields.specs.declared.response.ResponseCode.TheVariants as says
use Rattle.command_data.specs.declared.item.Tagged.{Tagged}
use Rattle.command_data.specs.declared.command.DataCommand.TheVariants as data_commands
use Rattle.command_admin.specs.declared.command.AdminCommand.TheVariants as admin_commands
use Rattle.command_all.specs.declared.command.Command.{Command}
use Rattle.command_all.specs.declared.command.Command.TheVariants.{Data, Admin}
use Rattle.command_all.specs.Commands.{frame_of}
use Rattle.script_text.specs.declared.script.ScriptLine.TheVariants as script
use Rattle.script_text.specs.declared.output.OutputLine.TheVariants as output
use Rattle.script_text.specs.declared.output.Ending.TheVariants.{PeerEnded, ClosedByUs}
use Rattle.list_machine.specs.Streams.{Frame, Confirmed, Declaration, Activity, Subscription, live, Stream, no_stream}
use Rattle.list_machine.specs.Machines.{Connection, fresh, no_connection, adds, Doing, Machine, empty_machine}
use Rattle.list_machine.specs.Steps.{Event, read, handled, misread, made, refused, found, committed, sent, ended, told, MachineRun}

-- ---- what the events are made of

abbrev pub s_name : List ℕ
s_name = codes "s"

abbrev pub p_name : List ℕ
p_name = codes "p"

-- an item of one byte
abbrev pub item : ℕ → ℕ → Tagged
item id byte = record { id = id; entry = Simple (byte ∷ []) }

abbrev pub user_chunk : ℕ → ℕ → List Entry → List ℕ → Chunk
user_chunk epoch first entries trailer = record { kind = User; stamp = pos 0; epoch = epoch; first = first; entries = entries; trailer = trailer }

-- items of p, in a chunk of their own
abbrev pub chunk_of : ℕ → ℕ → Tagged → Chunk
chunk_of epoch first x = user_chunk epoch first (x.entry ∷ []) (tag_bytes (record { name = p_name; id = x.id }))

-- the chunk with which the first epoch opens
abbrev pub opening : Chunk
opening = record { kind = Snapshot; stamp = pos 0; epoch = 1; first = 0; entries = Simple [] ∷ []; trailer = [] }

-- the offset 1, stored under c
abbrev pub stored_chunk : ℕ → Chunk
stored_chunk first = record { kind = Delta; stamp = pos 0; epoch = 1; first = first; entries = Simple (delta_bytes (DeltaOffset (codes "c") 1)) ∷ []; trailer = [] }

-- ---- machines with one stream and one connection

abbrev pub machine_of : Stream → Connection → Doing → Machine
machine_of s k doing = record {
  streams = λ (number : ℕ). if number == 1 then s else no_stream;
  connections = λ (number : ℕ). if number == 1 then k else no_connection;
  last = 1;
  unsure = [];
  doing = doing;
  moment = 0;
}

-- stream "s" with these parts
abbrev pub stream_of : List Chunk → List Declaration → List Subscription → List Confirmed → Stream
stream_of chunks declarations subscriptions confirmed = record {
  life = live;
  name = s_name;
  super = None;
  chunks = chunks;
  seen = chunks;
  declarations = declarations;
  subscriptions = subscriptions;
  confirmed = confirmed;
  stored = [];
}

-- a connection with these commands read and these answers owed
abbrev pub connection_of : List Command → List Command → Connection
connection_of inbox owed = record fresh { inbox = inbox; owed = owed }

-- publisher 0 without a name, with which a connection is prepared
abbrev pub prepared : Declaration
prepared = record { connection = 1; id = 0; name = None; frames = []; known = []; stands = true }

-- publisher 7 under the name p, with these frames
abbrev pub seven : List Frame → Declaration
seven frames = record { connection = 1; id = 7; name = Some p_name; frames = frames; known = []; stands = true }

abbrev pub frame : List Tagged → Bool → Frame
frame items waits = record { items = items; waits = waits }

-- subscription 3
abbrev pub reader : Activity → ℕ → ℕ → List Chunk → Subscription
reader activity next credits delivered = record {
  connection = 1;
  id = 3;
  group = None;
  activity = activity;
  next = next;
  credits = credits;
  start = 0;
  delivered = delivered;
  granted = 1;
  sent = 0;
}

-- ---- the worked run

-- publisher 7 is declared under p
abbrev pub declares_seven : Command
declares_seven = Data (data_commands.DeclarePublisher 5 7 (Some p_name) (Some s_name))

abbrev pub is_declared : Command
is_declared = Data (data_commands.Plain 0x8001 5 1)

abbrev pub publishes_one : Command
publishes_one = Data (data_commands.Publish 7 (item 1 97 ∷ []))

abbrev pub confirms_one : Command
confirms_one = Data (data_commands.PublishConfirm 7 (1 ∷ []))

abbrev pub subscribes_three : Command
subscribes_three = Data (data_commands.Subscribe 6 3 (Some s_name) First 1 None)

abbrev pub is_subscribed : Command
is_subscribed = Data (data_commands.Plain 0x8007 6 1)

-- a chunk is sent to subscription 3
abbrev pub delivery : Chunk → Command
delivery c = Data (data_commands.Deliver 3 (header_of c) (entries_bytes c.entries))

abbrev pub gives : Command → Event
gives command = read (script.Give 1 (frame_of command))

-- stream "s" is made, and opens
abbrev pub a_stream_made : List Event
a_stream_made = read (script.Create s_name) ∷ made ∷ committed 1 opening ∷ []

-- a connection is prepared on it, and publisher 7 declared
abbrev pub a_declaration : List Event
a_declaration = read (script.Prepare 1 s_name) ∷ gives declares_seven ∷ handled 1 declares_seven (Some is_declared) ∷ sent 1 is_declared ∷ []

-- item 1 is published, committed and confirmed
abbrev pub a_confirm : List Event
a_confirm =
    gives publishes_one ∷ handled 1 publishes_one None ∷ read (script.Settle 1) ∷ committed 1 (chunk_of 1 1 (item 1 97)) ∷ read (script.Poll 1) ∷ sent 1 confirms_one ∷ []

-- a subscription starts at the first offset, and gets the chunk
abbrev pub a_delivery : List Event
a_delivery =
    gives subscribes_three ∷ handled 1 subscribes_three (Some is_subscribed) ∷ sent 1 is_subscribed ∷ read (script.Poll 1) ∷ sent 1 (delivery (chunk_of 1 1 (item 1 97))) ∷ []

-- a member stops, then all; the connection ends; and another epoch opens
abbrev pub a_stop : List Event
a_stop =
    read (script.Stop 1 2 0 0) ∷ told (output.Down 1 2) ∷ read (script.StopAll 0 0) ∷ ended 1 PeerEnded ∷ told (output.Up 1 2 2 2) ∷ read (script.Settle 1)
    ∷ committed 1 (record opening { epoch = 3; first = 2 }) ∷ []

abbrev pub the_worked_run : List Event
the_worked_run = a_stream_made ++ (a_declaration ++ (a_confirm ++ (a_delivery ++ a_stop)))

-- ---- other events

-- a size above the greatest stands in a frame's place
abbrev pub large_size : List ℕ
large_size = u32_bytes 1048577

abbrev pub closes_large : Command
closes_large = Admin (admin_commands.Close 1 0x0e (Some (codes "frame too large")))

-- a connection gives it, and is closed
abbrev pub a_frame_too_large : List Event
a_frame_too_large = read (script.Connect 1) ∷ read (script.Give 1 large_size) ∷ misread 1 closes_large ∷ sent 1 closes_large ∷ ended 1 (ClosedByUs 0x0e) ∷ []

-- Stream "s" is there already. After an internal error it isn't known whether stream "t" is made; as "u" is made, it is
-- found that it was.
abbrev pub a_change_in_doubt : List Event
a_change_in_doubt =
    read (script.Create s_name) ∷ refused says.StreamAlreadyExists ∷ read (script.Create (codes "t")) ∷ refused says.InternalError
    ∷ read (script.Create (codes "u")) ∷ found (adds None (Some (codes "t") ∷ [])) ∷ made ∷ []

-- the events are a run of the machine with nothing
abbrev pub HasRun : List Event → Type 0
HasRun events = (new : Machine) × MachineRun empty_machine events new
