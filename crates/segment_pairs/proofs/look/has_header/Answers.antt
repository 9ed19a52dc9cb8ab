use Rattle.std.proofs.Common.{refl, arith}
use Rattle.segment_pairs.proofs.Walking.{header_here, no_header_here}
use Rattle.segment_pairs.proofs.look.has_header.Goals as goal

pub returns-then-bytes-lt8 : goal.returns-then-bytes-lt8
returns-then-bytes-lt8 c = no_header_here c.args.header.now c.args.bytes.now (omega arith) (omega arith)

pub returns : goal.returns
returns c = header_here _ _ _ _ (omega arith) refl c.same_bytes.ensures
