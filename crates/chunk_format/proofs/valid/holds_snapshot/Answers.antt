use Rattle.chunk_format.proofs.TagLaws.{decides_snapshot}
use Rattle.chunk_format.proofs.valid.holds_snapshot.Goals as goal

pub returns-in-Some : goal.returns-in-Some
returns-in-Some c = decides_snapshot c.args.entries.now c.in-Some.body.now c.wrong_snapshot.result c.is_none.result c.in-Some.ensures c.wrong_snapshot.ensures c.is_none.ensures
