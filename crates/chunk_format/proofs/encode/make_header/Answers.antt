use Rattle.std.proofs.Common.{arith}
use Rattle.chunk_format.proofs.TagLaws.{trailer_fits}
use Rattle.chunk_format.proofs.encode.make_header.Goals as goal

pub overflow_cast-result-3 : goal.overflow_cast-result-3
overflow_cast-result-3 c = omega (arith, trailer_fits c.args.chunk.now c.requires.is_chunk)
