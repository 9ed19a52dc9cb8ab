-- What a session answers to each command at each stage, whatever hub it has.
use Rattle.std.specs.Prelude.{◌≤◌, ℕ, length}
use Rattle.std.specs.List.{AllByRecursion}
use Rattle.command_data.specs.declared.command.DataCommand.{DataCommand}
use Rattle.command_data.specs.declared.command.DataCommand.TheVariants as of_data
use Rattle.command_admin.specs.declared.command.AdminCommand.{AdminCommand}
use Rattle.command_admin.specs.declared.command.AdminCommand.TheVariants as of_admin
use Rattle.command_all.specs.declared.command.Command.{Command}
use Rattle.command_all.specs.declared.command.Command.TheVariants.{Data, Admin}
use Rattle.command_all.specs.declared.identity.Identity.{Identity}
use Rattle.hub_terms.specs.Meaning.{HasSpelling}
use Rattle.hub_terms.specs.Programs.{Program, done}
use Rattle.session_tables.specs.Opening.{Outcome, silent, unknown, parted, opened}
use Rattle.session_tables.specs.declared.tables.Stage.{Stage}
use Rattle.session_tables.specs.declared.tables.Stage.TheVariants as stages
use Rattle.session_tables.specs.declared.tables.Tables.{Tables}
use Rattle.session_core.specs.Publishing.{declare_row, publish_row, sequence_row, publisher_deleted}
use Rattle.session_core.specs.Consuming.{subscribe_row, credited, unsubscribe_row, update_row}
use Rattle.session_core.specs.Offsets.{store_row, query_row, stats_row}
use Rattle.session_core.specs.Streams.{create_row, delete_row, create_super_row, delete_super_row, metadata_row, route_row, partitions_row, versions_exchanged}

-- a Publish as a frame may hold it
abbrev pub HasFewItems : DataCommand → Type 0
HasFewItems (of_data.Publish publisher items) = (length items ≤ 1048576) × AllByRecursion HasSpelling items
HasFewItems other = Unit {0}

abbrev pub IsTaken : Command → Type 0
IsTaken (Data command) = HasFewItems command
IsTaken (Admin command) = Unit {0}

-- ---- an open connection

abbrev pub data_row : Tables → ℕ → DataCommand → Program Outcome
data_row t now (of_data.DeclarePublisher corr publisher reference stream) = declare_row t corr publisher reference stream
data_row t now (of_data.Publish publisher items) = publish_row t publisher items now
data_row t now (of_data.QueryPublisherSequence corr reference stream) = sequence_row t corr reference stream
data_row t now (of_data.DeletePublisher corr publisher) = done (publisher_deleted t corr publisher)
data_row t now (of_data.Subscribe corr sub stream spec credit properties) = subscribe_row t (record { corr = corr; id = sub; stream = stream; spec = spec; credit = credit; properties = properties })
data_row t now (of_data.Credit sub credit) = done (credited t sub credit)
data_row t now (of_data.StoreOffset reference stream offset) = store_row t reference stream offset now
data_row t now (of_data.QueryOffset corr reference stream) = query_row t corr reference stream
data_row t now (of_data.Unsubscribe corr sub) = unsubscribe_row t corr sub
data_row t now other = done (unknown t)

abbrev pub admin_row : Tables → AdminCommand → Program Outcome
admin_row t (of_admin.Create corr stream properties) = create_row t corr stream
admin_row t (of_admin.Delete corr stream) = delete_row t corr stream
admin_row t (of_admin.CreateSuper corr name partitions keys properties) = create_super_row t corr name partitions keys
admin_row t (of_admin.DeleteSuper corr name) = delete_super_row t corr name
admin_row t (of_admin.Metadata corr items) = metadata_row t corr items
admin_row t (of_admin.Route corr routing_key super_stream) = route_row t corr routing_key super_stream
admin_row t (of_admin.Partitions corr super_stream) = partitions_row t corr super_stream
admin_row t (of_admin.UpdateAnswer corr code content) = update_row t corr content
admin_row t (of_admin.ExchangeVersions corr items) = done (versions_exchanged t corr items)
admin_row t (of_admin.StreamStats corr stream) = stats_row t corr stream
admin_row t other = done (unknown t)

-- ---- at each stage

abbrev pub data_at : Tables → ℕ → Stage → DataCommand → Program Outcome
data_at t now stages.Open command = data_row t now command
data_at t now other command = done (unknown t)

abbrev pub admin_at : Identity → Tables → Stage → AdminCommand → Program Outcome
admin_at who t stages.Open command = admin_row t command
admin_at who t other command = done (opened who t other command)

-- Heartbeat and Close are taken at every stage
abbrev pub admin_any : Identity → Tables → AdminCommand → Program Outcome
admin_any who t of_admin.Heartbeat = done (silent t)
admin_any who t (of_admin.Close corr code reason) = done (parted t corr)
admin_any who t other = admin_at who t t.stage other

abbrev pub command_row : Identity → Tables → ℕ → Command → Program Outcome
command_row who t now (Data command) = data_at t now t.stage command
command_row who t now (Admin command) = admin_any who t command
