-- What stands in the lists of commands, and a delivery's chunk.
use Rattle.std.specs.Prelude.{ℕ, List}
use Rattle.frame_wire.specs.declared.fault.FieldFault.{FieldFault}
use Rattle.frame_wire.specs.Formats.{Format, u16_field, u64_field}
use Rattle.frame_wire.specs.Joins.{◌then◌, mapped, within}
use Rattle.frame_wire.specs.Views.{raw, behind}
use Rattle.chunk_format.specs.declared.entry.Entry.{Entry}
use Rattle.chunk_format.specs.declared.chunk.Header.{Header}
use Rattle.chunk_format.specs.declared.field.HeaderFault.{HeaderFault}
use Rattle.chunk_format.specs.declared.field.HeaderFault.TheVariants as headers
use Rattle.chunk_format.specs.ChunkFields.{entry_field, header_field}
use Rattle.command_fields.specs.declared.fault.DecodeFault.{DecodeFault}
use Rattle.command_fields.specs.declared.fault.DecodeFault.TheVariants.{Short, Flag}
use Rattle.command_data.specs.declared.item.Tagged.{Tagged}
use Rattle.command_data.specs.declared.item.Refusal.{Refusal}

-- a publishing id and an entry
abbrev pub tagged_of : ℕ × Entry → Tagged
tagged_of parts = record { id = parts.0; entry = parts.1 }

abbrev pub tagged_parts : Tagged → ℕ × Entry
tagged_parts tagged = (tagged.id, tagged.entry)

abbrev pub tagged_field : Format Tagged FieldFault
tagged_field = mapped tagged_of tagged_parts (u64_field then entry_field)

-- a publishing id and a code
abbrev pub refusal_of : ℕ × ℕ → Refusal
refusal_of parts = record { id = parts.0; code = parts.1 }

abbrev pub refusal_parts : Refusal → ℕ × ℕ
refusal_parts refusal = (refusal.id, refusal.code)

abbrev pub refusal_field : Format Refusal FieldFault
refusal_field = mapped refusal_of refusal_parts (u64_field then u16_field)

-- a header that is not whole is a field that ends early, and a wrong one a wrong flag
abbrev pub of_header : HeaderFault → DecodeFault
of_header (headers.NotWhole place) = Short place
of_header (headers.Wrong place) = Flag place

-- the 48 header bytes, and a payload of the header's length
abbrev pub delivered : Format (Header × List ℕ) DecodeFault
delivered = behind (within of_header header_field) (λ header. raw (λ place. Short place) header.payload_len)
