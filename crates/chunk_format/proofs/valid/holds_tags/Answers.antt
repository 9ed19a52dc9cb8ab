use Rattle.std.proofs.Common.{◌<◌, length, arith}
use Rattle.std.proofs.lemmas.Grind.{common_steps}
use Rattle.chunk_format.proofs.TagLaws.{decides_tags}
use Rattle.chunk_format.proofs.valid.holds_tags.Goals as goal

pub returns-else-is_empty : goal.returns-else-is_empty
returns-else-is_empty c =
    let some : 0 < length c.args.trailer.now = grind (arith, common_steps) in
    decides_tags c.args.entries c.args.trailer.now c.wrong_tag.result c.is_none.result some c.wrong_tag.ensures c.is_none.ensures
