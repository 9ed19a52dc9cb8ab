use Rattle.std.proofs.Common.{arith}
use Rattle.chunk_format.proofs.ReadLaws.{only_chunk, told_chunk}
use Rattle.chunk_format.proofs.decode.decode_chunk.Goals as goal

pub returns-clause-only : goal.returns-clause-only
returns-clause-only c = λ chunk used begins. only_chunk c.args.bytes.now (λ i. omega (arith, c.type_inv.bytes i)) c.read_chunk.result c.read_chunk.ensures chunk used begins

pub returns-clause-told : goal.returns-clause-told
returns-clause-told c = λ fault wrong. told_chunk c.args.bytes.now (λ i. omega (arith, c.type_inv.bytes i)) c.read_chunk.result c.read_chunk.ensures fault wrong
