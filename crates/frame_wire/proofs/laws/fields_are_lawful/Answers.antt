use Rattle.frame_wire.proofs.FieldFormats.{u8_lawful, u16_lawful, u32_lawful, u64_lawful, i64_lawful, text_lawful, blob_lawful, count_lawful}
use Rattle.frame_wire.proofs.laws.fields_are_lawful.Goals as goal

pub returns : goal.returns
returns c = record { u8 = u8_lawful; u16 = u16_lawful; u32 = u32_lawful; u64 = u64_lawful; i64 = i64_lawful; text = text_lawful; blob = blob_lawful; count = count_lawful }
