-- A property: its key and its value, two texts.
use Rattle.std.specs.Prelude.{ℕ, List, Option}
use Rattle.frame_wire.specs.declared.fault.FieldFault.{FieldFault}
use Rattle.frame_wire.specs.Formats.{Format, text_field}
use Rattle.frame_wire.specs.Joins.{mapped, ◌then◌}
use Rattle.command_fields.specs.declared.property.Property.{Property}

abbrev pub property_of : Option (List ℕ) × Option (List ℕ) → Property
property_of texts = record { key = texts.0; value = texts.1 }

abbrev pub texts_of : Property → Option (List ℕ) × Option (List ℕ)
texts_of property = (property.key, property.value)

abbrev pub property_field : Format Property FieldFault
property_field = mapped property_of texts_of (text_field then text_field)
