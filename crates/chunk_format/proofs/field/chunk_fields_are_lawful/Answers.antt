use Rattle.chunk_format.proofs.FieldLaws.{entry_lawful, header_lawful}
use Rattle.chunk_format.proofs.field.chunk_fields_are_lawful.Goals as goal

pub returns : goal.returns
returns c = record { entry = entry_lawful; header = header_lawful }
