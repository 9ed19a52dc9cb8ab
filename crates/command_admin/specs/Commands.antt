-- The administrative commands: the layout of each, and the commands that a body spells.
use Rattle.std.specs.Prelude.{◌≡◌, ◌⊎◌, ℕ, List, Option, Some, None, ◌==◌, if◌then◌else◌}
use Rattle.frame_wire.specs.Joins.{◌then◌, or_absent, end_of}
use Rattle.frame_wire.specs.Formats.{text_field}
use Rattle.command_fields.specs.declared.fault.DecodeFault.{DecodeFault}
use Rattle.command_fields.specs.declared.fault.DecodeFault.TheVariants.{Long}
use Rattle.command_fields.specs.Offsets.{spec_field}
use Rattle.command_fields.specs.Properties.{property_field}
use Rattle.command_fields.specs.Tables.{Layout, layout, layout_if, Table, SpellsIn, WrongIn, last, u8, u16, u32, text, blob, list_of}
use Rattle.command_admin.specs.Flags.{flag}
use Rattle.command_admin.specs.Items.{broker_field, metadata_field, versions_field, statistic_field}
use Rattle.command_admin.specs.declared.command.AdminCommand.{AdminCommand}
use Rattle.command_admin.specs.declared.command.AdminCommand.TheVariants.{Create, Delete, Metadata, MetadataAnswer, MetadataUpdate, PeerProperties, PeerAnswer, SaslHandshake, MechanismAnswer, SaslAuthenticate, SaslAnswer, Tune, TuneAnswer, OpenHost, HostAnswer, Close, Heartbeat, Route, RouteAnswer, Partitions, PartitionsAnswer, ConsumerUpdate, UpdateAnswer, ExchangeVersions, VersionsAnswer, StreamStats, StatsAnswer, CreateSuper, DeleteSuper, Plain}
use Rattle.command_admin.specs.declared.key.AdminKey.{AdminKey}
use Rattle.command_admin.specs.declared.key.AdminKey.TheVariants as keys

-- the responses of a code alone
abbrev pub IsPlainKey : ℕ → Type 0
IsPlainKey n = (n ≡ 0x800d) ⊎ ((n ≡ 0x800e) ⊎ ((n ≡ 0x8016) ⊎ ((n ≡ 0x801d) ⊎ (n ≡ 0x801e))))

-- ---- the table: the code of each key, and the fields behind key and version

abbrev pub admin_layout : AdminKey → Layout
admin_layout keys.Create = layout 0x000d (u32 then text then last (list_of property_field))
admin_layout keys.Delete = layout 0x000e (u32 then last text)
admin_layout keys.Metadata = layout 0x000f (u32 then last (list_of text_field))
admin_layout keys.MetadataAnswer = layout 0x800f (u32 then list_of broker_field then last (list_of metadata_field))
admin_layout keys.MetadataUpdate = layout 0x0010 (u16 then last text)
admin_layout keys.PeerProperties = layout 0x0011 (u32 then last (list_of property_field))
admin_layout keys.PeerAnswer = layout 0x8011 (u32 then u16 then or_absent (last (list_of property_field)))
admin_layout keys.SaslHandshake = layout 0x0012 (last u32)
admin_layout keys.MechanismAnswer = layout 0x8012 (u32 then u16 then or_absent (last (list_of text_field)))
admin_layout keys.SaslAuthenticate = layout 0x0013 (u32 then text then last blob)
admin_layout keys.SaslAnswer = layout 0x8013 (u32 then u16 then or_absent (last blob))
admin_layout keys.Tune = layout 0x0014 (u32 then last u32)
admin_layout keys.TuneAnswer = layout 0x8014 (u32 then last u32)
admin_layout keys.OpenHost = layout 0x0015 (u32 then last text)
admin_layout keys.HostAnswer = layout 0x8015 (u32 then u16 then or_absent (last (list_of property_field)))
admin_layout keys.Close = layout 0x0016 (u32 then u16 then last text)
admin_layout keys.Heartbeat = layout 0x0017 (end_of Long)
admin_layout keys.Route = layout 0x0018 (u32 then text then last text)
admin_layout keys.RouteAnswer = layout 0x8018 (u32 then u16 then or_absent (last (list_of text_field)))
admin_layout keys.Partitions = layout 0x0019 (u32 then last text)
admin_layout keys.PartitionsAnswer = layout 0x8019 (u32 then u16 then or_absent (last (list_of text_field)))
admin_layout keys.ConsumerUpdate = layout 0x001a (u32 then u8 then last flag)
admin_layout keys.UpdateAnswer = layout 0x801a (u32 then u16 then or_absent (last spec_field))
admin_layout keys.ExchangeVersions = layout 0x001b (u32 then last (list_of versions_field))
admin_layout keys.VersionsAnswer = layout 0x801b (u32 then u16 then or_absent (last (list_of versions_field)))
admin_layout keys.StreamStats = layout 0x001c (u32 then last text)
admin_layout keys.StatsAnswer = layout 0x801c (u32 then u16 then or_absent (last (list_of statistic_field)))
admin_layout keys.CreateSuper = layout 0x001d (u32 then text then list_of text_field then list_of text_field then last (list_of property_field))
admin_layout keys.DeleteSuper = layout 0x001e (u32 then last text)
admin_layout (keys.Plain n) = layout_if (IsPlainKey n) n (u32 then last u16)

abbrev pub key_of : AdminCommand → AdminKey
key_of (Create corr stream properties) = keys.Create
key_of (Delete corr stream) = keys.Delete
key_of (Metadata corr items) = keys.Metadata
key_of (MetadataAnswer corr brokers streams) = keys.MetadataAnswer
key_of (MetadataUpdate code stream) = keys.MetadataUpdate
key_of (PeerProperties corr properties) = keys.PeerProperties
key_of (PeerAnswer corr code properties) = keys.PeerAnswer
key_of (SaslHandshake corr) = keys.SaslHandshake
key_of (MechanismAnswer corr code items) = keys.MechanismAnswer
key_of (SaslAuthenticate corr mechanism opaque) = keys.SaslAuthenticate
key_of (SaslAnswer corr code content) = keys.SaslAnswer
key_of (Tune frame_max heartbeat) = keys.Tune
key_of (TuneAnswer frame_max heartbeat) = keys.TuneAnswer
key_of (OpenHost corr virtual_host) = keys.OpenHost
key_of (HostAnswer corr code properties) = keys.HostAnswer
key_of (Close corr code reason) = keys.Close
key_of Heartbeat = keys.Heartbeat
key_of (Route corr routing_key super_stream) = keys.Route
key_of (RouteAnswer corr code items) = keys.RouteAnswer
key_of (Partitions corr super_stream) = keys.Partitions
key_of (PartitionsAnswer corr code items) = keys.PartitionsAnswer
key_of (ConsumerUpdate corr sub active) = keys.ConsumerUpdate
key_of (UpdateAnswer corr code content) = keys.UpdateAnswer
key_of (ExchangeVersions corr items) = keys.ExchangeVersions
key_of (VersionsAnswer corr code items) = keys.VersionsAnswer
key_of (StreamStats corr stream) = keys.StreamStats
key_of (StatsAnswer corr code items) = keys.StatsAnswer
key_of (CreateSuper corr name partitions bindings properties) = keys.CreateSuper
key_of (DeleteSuper corr name) = keys.DeleteSuper
key_of (Plain key corr code) = keys.Plain key

abbrev pub fields_of : (c : AdminCommand) → (admin_layout (key_of c)).Fields
fields_of (Create corr stream properties) = (corr, (stream, properties))
fields_of (Delete corr stream) = (corr, stream)
fields_of (Metadata corr items) = (corr, items)
fields_of (MetadataAnswer corr brokers streams) = (corr, (brokers, streams))
fields_of (MetadataUpdate code stream) = (code, stream)
fields_of (PeerProperties corr properties) = (corr, properties)
fields_of (PeerAnswer corr code properties) = (corr, (code, properties))
fields_of (SaslHandshake corr) = corr
fields_of (MechanismAnswer corr code items) = (corr, (code, items))
fields_of (SaslAuthenticate corr mechanism opaque) = (corr, (mechanism, opaque))
fields_of (SaslAnswer corr code content) = (corr, (code, content))
fields_of (Tune frame_max heartbeat) = (frame_max, heartbeat)
fields_of (TuneAnswer frame_max heartbeat) = (frame_max, heartbeat)
fields_of (OpenHost corr virtual_host) = (corr, virtual_host)
fields_of (HostAnswer corr code properties) = (corr, (code, properties))
fields_of (Close corr code reason) = (corr, (code, reason))
fields_of Heartbeat = tt
fields_of (Route corr routing_key super_stream) = (corr, (routing_key, super_stream))
fields_of (RouteAnswer corr code items) = (corr, (code, items))
fields_of (Partitions corr super_stream) = (corr, super_stream)
fields_of (PartitionsAnswer corr code items) = (corr, (code, items))
fields_of (ConsumerUpdate corr sub active) = (corr, (sub, active))
fields_of (UpdateAnswer corr code content) = (corr, (code, content))
fields_of (ExchangeVersions corr items) = (corr, items)
fields_of (VersionsAnswer corr code items) = (corr, (code, items))
fields_of (StreamStats corr stream) = (corr, stream)
fields_of (StatsAnswer corr code items) = (corr, (code, items))
fields_of (CreateSuper corr name partitions bindings properties) = (corr, (name, (partitions, (bindings, properties))))
fields_of (DeleteSuper corr name) = (corr, name)
fields_of (Plain key corr code) = (corr, code)

abbrev pub command_of : (k : AdminKey) → (admin_layout k).Fields → AdminCommand
command_of keys.Create (corr, (stream, properties)) = Create corr stream properties
command_of keys.Delete (corr, stream) = Delete corr stream
command_of keys.Metadata (corr, items) = Metadata corr items
command_of keys.MetadataAnswer (corr, (brokers, streams)) = MetadataAnswer corr brokers streams
command_of keys.MetadataUpdate (code, stream) = MetadataUpdate code stream
command_of keys.PeerProperties (corr, properties) = PeerProperties corr properties
command_of keys.PeerAnswer (corr, (code, properties)) = PeerAnswer corr code properties
command_of keys.SaslHandshake corr = SaslHandshake corr
command_of keys.MechanismAnswer (corr, (code, items)) = MechanismAnswer corr code items
command_of keys.SaslAuthenticate (corr, (mechanism, opaque)) = SaslAuthenticate corr mechanism opaque
command_of keys.SaslAnswer (corr, (code, content)) = SaslAnswer corr code content
command_of keys.Tune (frame_max, heartbeat) = Tune frame_max heartbeat
command_of keys.TuneAnswer (frame_max, heartbeat) = TuneAnswer frame_max heartbeat
command_of keys.OpenHost (corr, virtual_host) = OpenHost corr virtual_host
command_of keys.HostAnswer (corr, (code, properties)) = HostAnswer corr code properties
command_of keys.Close (corr, (code, reason)) = Close corr code reason
command_of keys.Heartbeat u = Heartbeat
command_of keys.Route (corr, (routing_key, super_stream)) = Route corr routing_key super_stream
command_of keys.RouteAnswer (corr, (code, items)) = RouteAnswer corr code items
command_of keys.Partitions (corr, super_stream) = Partitions corr super_stream
command_of keys.PartitionsAnswer (corr, (code, items)) = PartitionsAnswer corr code items
command_of keys.ConsumerUpdate (corr, (sub, active)) = ConsumerUpdate corr sub active
command_of keys.UpdateAnswer (corr, (code, content)) = UpdateAnswer corr code content
command_of keys.ExchangeVersions (corr, items) = ExchangeVersions corr items
command_of keys.VersionsAnswer (corr, (code, items)) = VersionsAnswer corr code items
command_of keys.StreamStats (corr, stream) = StreamStats corr stream
command_of keys.StatsAnswer (corr, (code, items)) = StatsAnswer corr code items
command_of keys.CreateSuper (corr, (name, (partitions, (bindings, properties)))) = CreateSuper corr name partitions bindings properties
command_of keys.DeleteSuper (corr, name) = DeleteSuper corr name
command_of (keys.Plain n) (corr, code) = Plain n corr code

abbrev pub key_named : ℕ → Option AdminKey
key_named n =
    if n == 0x000d then Some keys.Create else
    if n == 0x000e then Some keys.Delete else
    if n == 0x000f then Some keys.Metadata else
    if n == 0x800f then Some keys.MetadataAnswer else
    if n == 0x0010 then Some keys.MetadataUpdate else
    if n == 0x0011 then Some keys.PeerProperties else
    if n == 0x8011 then Some keys.PeerAnswer else
    if n == 0x0012 then Some keys.SaslHandshake else
    if n == 0x8012 then Some keys.MechanismAnswer else
    if n == 0x0013 then Some keys.SaslAuthenticate else
    if n == 0x8013 then Some keys.SaslAnswer else
    if n == 0x0014 then Some keys.Tune else
    if n == 0x8014 then Some keys.TuneAnswer else
    if n == 0x0015 then Some keys.OpenHost else
    if n == 0x8015 then Some keys.HostAnswer else
    if n == 0x0016 then Some keys.Close else
    if n == 0x0017 then Some keys.Heartbeat else
    if n == 0x0018 then Some keys.Route else
    if n == 0x8018 then Some keys.RouteAnswer else
    if n == 0x0019 then Some keys.Partitions else
    if n == 0x8019 then Some keys.PartitionsAnswer else
    if n == 0x001a then Some keys.ConsumerUpdate else
    if n == 0x801a then Some keys.UpdateAnswer else
    if n == 0x001b then Some keys.ExchangeVersions else
    if n == 0x801b then Some keys.VersionsAnswer else
    if n == 0x001c then Some keys.StreamStats else
    if n == 0x801c then Some keys.StatsAnswer else
    if n == 0x001d then Some keys.CreateSuper else
    if n == 0x001e then Some keys.DeleteSuper else
    if n == 0x800d then Some (keys.Plain n) else
    if n == 0x800e then Some (keys.Plain n) else
    if n == 0x8016 then Some (keys.Plain n) else
    if n == 0x801d then Some (keys.Plain n) else
    if n == 0x801e then Some (keys.Plain n) else
    None

abbrev pub admin_table : Table AdminCommand AdminKey
admin_table = record { layout_of = admin_layout; key = key_of; fields = fields_of; make = command_of; named = key_named; newer = λ k. None }

-- a command and its body
abbrev pub AdminSpells : AdminCommand → List ℕ → Type 0
AdminSpells c body = SpellsIn admin_table c body

-- the first wrong field of a body
abbrev pub AdminWrong : List ℕ → DecodeFault → Type 0
AdminWrong body fault = WrongIn admin_table body fault
