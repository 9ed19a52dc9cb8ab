use Rattle.frame_wire.proofs.FieldFormats.{u8_lawful, u16_lawful, u32_lawful, u64_lawful, i64_lawful, text_lawful, blob_lawful, count_lawful}
use Rattle.frame_wire.proofs.JoinLaws.{one_outcome}
use Rattle.frame_wire.proofs.laws.fields_have_one_outcome.Goals as goal

pub returns : goal.returns
returns c = record {
  u8 = one_outcome _ u8_lawful;
  u16 = one_outcome _ u16_lawful;
  u32 = one_outcome _ u32_lawful;
  u64 = one_outcome _ u64_lawful;
  i64 = one_outcome _ i64_lawful;
  text = one_outcome _ text_lawful;
  blob = one_outcome _ blob_lawful;
  count = one_outcome _ count_lawful;
}
