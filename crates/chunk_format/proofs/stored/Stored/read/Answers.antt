use Rattle.std.proofs.Common.{arith}
use Rattle.chunk_format.specs.Reads.{as_read}
use Rattle.chunk_format.proofs.ReadLaws.{only_chunk, told_stored}
use Rattle.chunk_format.proofs.stored.Stored.read.Goals as goal

pub returns-clause-only : goal.returns-clause-only
returns-clause-only c = λ chunk used begins. only_chunk c.args.bytes.now (λ i. omega (arith, c.type_inv.bytes i)) (as_read c.read_stored.result) c.read_stored.ensures chunk used begins

pub returns-clause-told : goal.returns-clause-told
returns-clause-told c = λ fault wrong. told_stored c.args.bytes.now (λ i. omega (arith, c.type_inv.bytes i)) c.read_stored.result c.read_stored.ensures fault wrong
