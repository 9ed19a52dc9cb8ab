use Rattle.chunk_format.proofs.BeginLaws.{begins_still}
use Rattle.chunk_format.proofs.ReadLaws.{same_begun}
use Rattle.chunk_format.proofs.laws.bytes_begin_with_one_chunk.Goals as goal

pub returns : goal.returns
returns c = record { one = same_begun; still = begins_still }
