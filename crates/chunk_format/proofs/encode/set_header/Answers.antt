use Rattle.std.proofs.Common.{length, sym, ap, ◌∙◌}
use Rattle.std.proofs.lemmas.List.{length-take-le}
use Rattle.chunk_format.proofs.ChunkLaws.{header_length}
use Rattle.chunk_format.proofs.encode.set_header.Goals as goal

pub copy_from_slice-requires : goal.copy_from_slice-requires
copy_from_slice-requires c = length-take-le 48 c.args.bytes.now c.requires ∙ sym (ap length c.spelled_header.ensures ∙ header_length c.args.header.now)
