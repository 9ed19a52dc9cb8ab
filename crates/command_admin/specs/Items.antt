-- The items of several fields.
use Rattle.std.specs.Prelude.{ℕ, ℤ, List, Option}
use Rattle.frame_wire.specs.declared.fault.FieldFault.{FieldFault}
use Rattle.frame_wire.specs.Formats.{Format, u16_field, u32_field, i64_field, text_field}
use Rattle.frame_wire.specs.Joins.{mapped, ◌then◌, list}
use Rattle.frame_wire.specs.Items.{same_fault}
use Rattle.command_admin.specs.declared.item.Broker.{Broker}
use Rattle.command_admin.specs.declared.item.StreamMetadata.{StreamMetadata}
use Rattle.command_admin.specs.declared.item.KeyVersions.{KeyVersions}
use Rattle.command_admin.specs.declared.item.Statistic.{Statistic}

-- reference, host, port
abbrev pub broker_of : ℕ × (Option (List ℕ) × ℕ) → Broker
broker_of p = record { reference = p.0; host = p.1.0; port = p.1.1 }

abbrev pub of_broker : Broker → ℕ × (Option (List ℕ) × ℕ)
of_broker b = (b.reference, (b.host, b.port))

abbrev pub broker_field : Format Broker FieldFault
broker_field = mapped broker_of of_broker (u16_field then text_field then u32_field)

-- stream, code, leader, replicas
abbrev pub metadata_of : Option (List ℕ) × (ℕ × (ℕ × List ℕ)) → StreamMetadata
metadata_of p = record { stream = p.0; code = p.1.0; leader = p.1.1.0; replicas = p.1.1.1 }

abbrev pub of_metadata : StreamMetadata → Option (List ℕ) × (ℕ × (ℕ × List ℕ))
of_metadata m = (m.stream, (m.code, (m.leader, m.replicas)))

abbrev pub metadata_field : Format StreamMetadata FieldFault
metadata_field = mapped metadata_of of_metadata (text_field then u16_field then u16_field then list same_fault u16_field)

-- key, least, greatest
abbrev pub versions_of : ℕ × (ℕ × ℕ) → KeyVersions
versions_of p = record { key = p.0; least = p.1.0; greatest = p.1.1 }

abbrev pub of_versions : KeyVersions → ℕ × (ℕ × ℕ)
of_versions v = (v.key, (v.least, v.greatest))

abbrev pub versions_field : Format KeyVersions FieldFault
versions_field = mapped versions_of of_versions (u16_field then u16_field then u16_field)

-- name, value
abbrev pub statistic_of : Option (List ℕ) × ℤ → Statistic
statistic_of p = record { name = p.0; value = p.1 }

abbrev pub of_statistic : Statistic → Option (List ℕ) × ℤ
of_statistic s = (s.name, s.value)

abbrev pub statistic_field : Format Statistic FieldFault
statistic_field = mapped statistic_of of_statistic (text_field then i64_field)
