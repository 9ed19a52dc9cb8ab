use Rattle.std.proofs.Common.{◌+◌, refl, arith}
use Rattle.chunk_format.specs.Tags.{snapshot_bytes, IsSnapshot}
use Rattle.chunk_format.specs.Parts.{snapshot_of}
use Rattle.chunk_format.proofs.Codes.{snapshot_code}
use Rattle.chunk_format.proofs.Gone.{gone_more}
use Rattle.chunk_format.proofs.lists.wrong_snapshot.Goals as goal

pub entries-smaller : goal.entries-smaller
entries-smaller c = let split = c.in-Some.ensures in omega (arith, c.entries-test.true, split.2, snapshot_code.some (snapshot_of c.in-Some.field-0-0) split.0)

pub entries-preserved : goal.entries-preserved
entries-preserved c =
    let split = c.in-Some.ensures in
    let gone = c.entries.invariant in
    (gone.0 + 1, gone_more snapshot_bytes IsSnapshot c.args.body.now gone.0 c.entries.at gone.1 (snapshot_of c.in-Some.field-0-0) c.in-Some.len _ refl split.0 split.1 split.2)
