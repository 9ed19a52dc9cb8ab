use Rattle.std.proofs.Common.{◌≤◌, arith}
use Rattle.chunk_format.proofs.Splitting.{no_snapshot_kind}
use Rattle.chunk_format.proofs.tracking.split_snapshot.Goals as goal

pub returns-in_default : goal.returns-in_default
returns-in_default c =
    let named = c.in_ok-named.named in
    let large : 2 ≤ named.kind = omega arith in
    no_snapshot_kind named.kind named.name.now c.args.bytes.now c.in_ok-named.ensures.0 large c.in_ok-named.ensures.1
