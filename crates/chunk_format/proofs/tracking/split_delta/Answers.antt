use Rattle.std.proofs.Common.{◌≤◌, arith}
use Rattle.chunk_format.proofs.Splitting.{stands_long, no_delta_number, no_delta_kind}
use Rattle.chunk_format.proofs.tracking.split_delta.Goals as goal

pub overflow_sub-bytes : goal.overflow_sub-bytes
overflow_sub-bytes c = let named = c.in_ok-named.named in stands_long named.kind named.name.now c.args.bytes.now c.in_ok-named.ensures.1

pub returns-then-bytes-at-lt8 : goal.returns-then-bytes-at-lt8
returns-then-bytes-at-lt8 c =
    let named = c.in_ok-named.named in no_delta_number named.kind named.name.now c.args.bytes.now c.in_ok-named.ensures.0 c.in_ok-named.ensures.1 (omega arith)

pub returns-in_default : goal.returns-in_default
returns-in_default c =
    let named = c.in_ok-named.named in
    let large : 2 ≤ named.kind = omega arith in
    no_delta_kind named.kind named.name.now c.args.bytes.now c.in_ok-named.ensures.0 large c.in_ok-named.ensures.1
