use Rattle.std.proofs.Common.{arith}
use Rattle.chunk_format.proofs.Splitting.{stands_long, no_sequence}
use Rattle.chunk_format.proofs.tracking.split_sequence.Goals as goal

pub overflow_sub-bytes : goal.overflow_sub-bytes
overflow_sub-bytes c = stands_long 0 c.args.name.now c.args.bytes.now c.requires

pub returns-then-bytes-at-lt16 : goal.returns-then-bytes-at-lt16
returns-then-bytes-at-lt16 c = no_sequence c.args.name.now c.args.bytes.now c.requires (omega arith)
