use Rattle.std.proofs.Common.{arith}
use Rattle.chunk_format.proofs.FieldLaws.{header_there, header_not_whole, header_wrong}
use Rattle.chunk_format.proofs.field.first_header.Goals as goal

pub returns-then-bytes-lt48 : goal.returns-then-bytes-lt48
returns-then-bytes-lt48 c = header_not_whole c.args.place c.args.bytes.now (λ i. omega (arith, c.type_inv.bytes i)) c.if-bytes-lt48.true

pub returns-in-Ok : goal.returns-in-Ok
returns-in-Ok c = header_there c.args.place c.args.bytes.now c.in-Ok.header c.in-Ok.ensures c.if-bytes-lt48.false

pub returns-in-Err : goal.returns-in-Err
returns-in-Err c = header_wrong c.args.place c.args.bytes.now c.in-Err.field-0 (λ i. omega (arith, c.type_inv.bytes i)) c.if-bytes-lt48.false c.in-Err.ensures
