-- A worked session: the other commands of publishers and consumers, and the other frames that are sent unasked.
use Rattle.std.specs.Prelude.{ℕ, List, [], ◌∷◌, ◌++◌, codes, Some, None}
use Rattle.chunk_format.specs.declared.chunk.Chunk.{Chunk}
use Rattle.chunk_format.specs.Chunks.{header_of, entries_bytes}
use Rattle.command_fields.specs.declared.offset.OffsetSpec.TheVariants.{First}
use Rattle.command_data.specs.declared.command.DataCommand.TheVariants as data_commands
use Rattle.command_admin.specs.declared.command.AdminCommand.TheVariants as admin_commands
use Rattle.command_all.specs.declared.command.Command.{Command}
use Rattle.command_all.specs.declared.command.Command.TheVariants.{Data, Admin}
use Rattle.script_text.specs.declared.output.Ending.TheVariants.{ClosedByPeer}
use Rattle.list_machine.specs.Steps.{Event, handled, sent, ended}
use Rattle.list_machine.specs.Examples.{s_name, p_name, item, gives}
use Rattle.list_machine.specs.Wrongs.{first_chunk, three_run, of_group, a_subscription}

-- a command is given, handled and answered; or it has no answer
abbrev pub asks_for : Command → Command → List Event
asks_for command answer = gives command ∷ handled 1 command (Some answer) ∷ sent 1 answer ∷ []

abbrev pub tells : Command → List Event
tells command = gives command ∷ handled 1 command None ∷ []

-- Deliver is taken in versions 1 and 2
abbrev pub versions : Command
versions = Admin (admin_commands.ExchangeVersions 20 (record { key = 0x0008; least = 1; greatest = 2 } ∷ []))

abbrev pub own_versions : Command
own_versions = Admin (admin_commands.VersionsAnswer 20 1 (Some (record { key = 0x0008; least = 1; greatest = 2 } ∷ [])))

-- subscription 3 is asked to be active, or to stop
abbrev pub is_asked : ℕ → ℕ → Command
is_asked corr flag = Admin (admin_commands.ConsumerUpdate corr 3 flag)

-- it starts at the first offset
abbrev pub starts_first : Command
starts_first = Admin (admin_commands.UpdateAnswer 1 1 (Some First))

abbrev pub has_stopped : Command
has_stopped = Admin (admin_commands.UpdateAnswer 2 1 None)

-- a chunk is sent in version 2, where the last chunk begins at 3
abbrev pub second_delivery : Chunk → Command
second_delivery c = Data (data_commands.Deliver2 3 3 (header_of c) (entries_bytes c.entries))

abbrev pub five_credits : Command
five_credits = Data (data_commands.Credit 3 5)

abbrev pub which_sequence : Command
which_sequence = Data (data_commands.QueryPublisherSequence 21 (Some p_name) (Some s_name))

abbrev pub is_three : Command
is_three = Data (data_commands.SequenceAnswer 21 1 (Some 3))

abbrev pub which_offset : Command
which_offset = Data (data_commands.QueryOffset 22 (Some (codes "c")) (Some s_name))

abbrev pub no_offset : Command
no_offset = Data (data_commands.OffsetAnswer 22 0x13 (Some 0))

-- publisher 9 isn't declared
abbrev pub publishes_by_nine : Command
publishes_by_nine = Data (data_commands.Publish 9 (item 1 97 ∷ []))

abbrev pub no_publisher : Command
no_publisher = Data (data_commands.PublishError 9 (record { id = 1; code = 0x12 } ∷ []))

abbrev pub unsubscribes_three : Command
unsubscribes_three = Data (data_commands.Unsubscribe 23 3)

abbrev pub deletes_seven : Command
deletes_seven = Data (data_commands.DeletePublisher 24 7)

abbrev pub closes_it : Command
closes_it = Admin (admin_commands.Close 25 1 (Some (codes "done")))

-- the code of a success, under a key and a correlation, of a data command and of an administrative one
abbrev pub data_done : ℕ → ℕ → Command
data_done key corr = Data (data_commands.Plain key corr 1)

abbrev pub admin_done : ℕ → ℕ → Command
admin_done key corr = Admin (admin_commands.Plain key corr 1)

-- A single active consumer waits, is asked to be active, gets a chunk in version 2 and credits, and is asked to stop.
abbrev pub a_consumer : List Event
a_consumer =
    asks_for versions own_versions ++ (a_subscription 1 (Some of_group)
    ++ (sent 1 (is_asked 1 1) ∷ tells starts_first ++ (sent 1 (second_delivery first_chunk) ∷ tells five_credits ++ (sent 1 (is_asked 2 0) ∷ tells has_stopped))))

-- Questions are answered, and a frame of no publisher is refused.
abbrev pub some_questions : List Event
some_questions = asks_for which_sequence is_three ++ (asks_for which_offset no_offset ++ asks_for publishes_by_nine no_publisher)

-- The subscription and the publisher end, the server tells of itself and of the stream, and the peer closes.
abbrev pub an_end : List Event
an_end =
    asks_for unsubscribes_three (data_done 0x800c 23)
    ++ (asks_for deletes_seven (data_done 0x8006 24)
    ++ (sent 1 (Admin (admin_commands.Tune 0 0)) ∷ sent 1 (Admin admin_commands.Heartbeat) ∷ sent 1 (Admin (admin_commands.MetadataUpdate 0x06 (Some s_name)))
    ∷ asks_for closes_it (admin_done 0x8016 25) ++ ended 1 ClosedByPeer ∷ []))

abbrev pub a_session : List Event
a_session = three_run ++ (a_consumer ++ (some_questions ++ an_end))
