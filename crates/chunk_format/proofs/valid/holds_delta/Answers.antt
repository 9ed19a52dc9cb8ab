use Rattle.chunk_format.proofs.TagLaws.{decides_delta}
use Rattle.chunk_format.proofs.valid.holds_delta.Goals as goal

pub returns-in-Some : goal.returns-in-Some
returns-in-Some c = decides_delta c.args.entries.now c.in-Some.body.now c.wrong_delta.result c.is_none.result c.in-Some.ensures c.wrong_delta.ensures c.is_none.ensures
