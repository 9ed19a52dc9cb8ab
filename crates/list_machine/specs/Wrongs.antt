-- Steps that the machine doesn't take, on machines that are written out; and what goes before them in runs.
use Rattle.std.specs.Prelude.{ℕ, true, false, List, [], ◌∷◌, ◌++◌, codes, Option, Some, None}
use Rattle.chunk_format.specs.declared.chunk.Chunk.{Chunk}
use Rattle.command_fields.specs.declared.property.Property.{Property}
use Rattle.command_fields.specs.declared.offset.OffsetSpec.TheVariants.{First}
use Rattle.command_data.specs.declared.item.Tagged.{Tagged}
use Rattle.command_data.specs.declared.command.DataCommand.TheVariants as data_commands
use Rattle.command_all.specs.declared.command.Command.{Command}
use Rattle.command_all.specs.declared.command.Command.TheVariants.{Data}
use Rattle.list_machine.specs.Streams.{Frame, Subscription}
use Rattle.list_machine.specs.Machines.{gone, Connection, fresh, idle, Machine}
use Rattle.list_machine.specs.Steps.{Event, handled, committed, sent, MachineStep}
use Rattle.list_machine.specs.Examples.{s_name, item, chunk_of, opening, stored_chunk, machine_of, stream_of, prepared, seven, frame, is_subscribed, gives, a_stream_made, a_declaration}

-- no step of the event leads from the machine
abbrev pub HasNoStep : Machine → Event → Type 0
HasNoStep old event = (new : Machine) → MachineStep old event new → ⊥

-- the machine whose stream has these chunks, and whose publisher 7, named p, sent these frames
abbrev pub published : List Chunk → List Frame → Machine
published chunks frames = machine_of (stream_of chunks (prepared ∷ seven frames ∷ []) [] []) fresh idle

-- the machine whose stream has these chunks and this subscription
abbrev pub subscribed : List Chunk → Subscription → Machine
subscribed chunks s = machine_of (stream_of chunks [] (s ∷ []) []) fresh idle

-- item 1 waits
abbrev pub one_waits : List Frame
one_waits = frame (item 1 97 ∷ []) true ∷ []

-- items 1 and 2 of one frame wait
abbrev pub two_wait : List Frame
two_wait = frame (item 1 97 ∷ item 2 98 ∷ []) true ∷ []

-- item 2 was sent before item 1
abbrev pub two_then_one : List Frame
two_then_one = frame (item 2 98 ∷ []) false ∷ frame (item 1 97 ∷ []) true ∷ []

-- item 1 is confirmed
abbrev pub one_confirmed : List Frame
one_confirmed = frame (item 1 97 ∷ []) false ∷ []

-- item 5 waits
abbrev pub five_waits : List Frame
five_waits = frame (item 5 101 ∷ []) true ∷ []

abbrev pub first_chunk : Chunk
first_chunk = chunk_of 1 1 (item 1 97)

abbrev pub second_chunk : Chunk
second_chunk = chunk_of 1 2 (item 2 98)

abbrev pub third_chunk : Chunk
third_chunk = chunk_of 1 3 (item 3 99)

-- the opening of epoch 3, at 1
abbrev pub later_opening : Chunk
later_opening = record opening { epoch = 3; first = 1 }

-- the ids of a publisher are confirmed
abbrev pub confirms_ids : ℕ → List ℕ → Command
confirms_ids id ids = Data (data_commands.PublishConfirm id ids)

-- a connection that has ended
abbrev pub ended_connection : Connection
ended_connection = record fresh { phase = gone }

-- ---- what goes before in runs

abbrev pub publishes : List Tagged → Command
publishes items = Data (data_commands.Publish 7 items)

-- publisher 7 is declared on a stream that has its opening, and sends these items in one frame
abbrev pub published_run : List Tagged → List Event
published_run items = a_stream_made ++ (a_declaration ++ gives (publishes items) ∷ handled 1 (publishes items) None ∷ [])

-- its item 1 is committed
abbrev pub committed_run : List Tagged → List Event
committed_run items = published_run items ++ committed 1 first_chunk ∷ []

-- items 1, 2 and 3 are committed, each in a chunk of its own
abbrev pub three_run : List Event
three_run = committed_run (item 1 97 ∷ item 2 98 ∷ item 3 99 ∷ []) ++ committed 1 second_chunk ∷ committed 1 third_chunk ∷ []

-- offset 1 is sent, to be stored under c
abbrev pub stores_one : Command
stores_one = Data (data_commands.StoreOffset (Some (codes "c")) (Some s_name) 1)

-- the offset is stored
abbrev pub stored_run : List Event
stored_run = a_stream_made ++ (a_declaration ++ gives stores_one ∷ handled 1 stores_one None ∷ committed 1 (stored_chunk 1) ∷ [])

-- a single active consumer of the group g
abbrev pub of_group : List Property
of_group =
    record { key = Some (codes "single-active-consumer"); value = Some (codes "true") } ∷ record { key = Some (codes "name"); value = Some (codes "g") } ∷ []

abbrev pub subscribes : ℕ → Option (List Property) → Command
subscribes credit properties = Data (data_commands.Subscribe 6 3 (Some s_name) First credit properties)

-- subscription 3 starts at the first offset, with these credits
abbrev pub a_subscription : ℕ → Option (List Property) → List Event
a_subscription credit properties = gives (subscribes credit properties) ∷ handled 1 (subscribes credit properties) (Some is_subscribed) ∷ sent 1 is_subscribed ∷ []
