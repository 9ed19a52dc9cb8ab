use Rattle.std.proofs.Common.{arith, rules}
use Rattle.command_data.proofs.Arms.{delivered_size, delivered_other, delivered_long}
use Rattle.command_data.proofs.size.delivered_size.Goals as goal

pub returns-then-len : goal.returns-then-len
returns-then-len c = delivered_long c.args.header c.args.payload.now (rw (← c.as_slice.ensures) c.if-len.true)

pub returns-then-len-header : goal.returns-then-len-header
returns-then-len-header c = delivered_other c.args.header c.args.payload.now (rw (← c.as_slice.ensures) c.if-len-header.true)

pub returns : goal.returns
returns c =
    rw c.as_slice.ensures
    (delivered_size c.args.header c.args.payload.now
    (record { entries = omega arith; records = omega arith; stamp = search rules; epoch = omega arith; first = omega arith; crc = omega arith; payload_len = omega arith; trailer_len = omega arith })
    (rw (← c.as_slice.ensures) c.if-len-header.false) (rw (← c.as_slice.ensures) c.if-len.false))
