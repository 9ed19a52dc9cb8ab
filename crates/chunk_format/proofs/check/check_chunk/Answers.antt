use Rattle.std.proofs.Common.{arith}
use Rattle.chunk_format.proofs.ReadLaws.{only_header, told_header}
use Rattle.chunk_format.proofs.check.check_chunk.Goals as goal

pub returns-clause-only : goal.returns-clause-only
returns-clause-only c = λ chunk used begins. only_header c.args.bytes.now (λ i. omega (arith, c.type_inv.bytes i)) c.checked_header.result c.checked_header.ensures chunk used begins

pub returns-clause-told : goal.returns-clause-told
returns-clause-told c = λ fault wrong. told_header c.args.bytes.now (λ i. omega (arith, c.type_inv.bytes i)) c.checked_header.result c.checked_header.ensures fault wrong
