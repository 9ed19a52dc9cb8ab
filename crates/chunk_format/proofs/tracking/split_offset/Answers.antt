use Rattle.std.proofs.Common.{arith}
use Rattle.chunk_format.proofs.Splitting.{stands_long, no_offset}
use Rattle.chunk_format.proofs.tracking.split_offset.Goals as goal

pub overflow_sub-bytes : goal.overflow_sub-bytes
overflow_sub-bytes c = stands_long 1 c.args.name.now c.args.bytes.now c.requires

pub returns-then-bytes-at-lt8 : goal.returns-then-bytes-at-lt8
returns-then-bytes-at-lt8 c = no_offset c.args.name.now c.args.bytes.now c.requires (omega arith)
