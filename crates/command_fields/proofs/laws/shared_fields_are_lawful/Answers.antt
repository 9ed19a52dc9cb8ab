use Rattle.command_fields.proofs.OffsetLaws.{spec_lawful, property_lawful}
use Rattle.frame_wire.proofs.JoinLaws.{one_outcome}
use Rattle.command_fields.proofs.laws.shared_fields_are_lawful.Goals as goal

pub returns : goal.returns
returns c = record { offset = spec_lawful; property = property_lawful; one_offset = one_outcome _ spec_lawful; one_property = one_outcome _ property_lawful }
