use Rattle.chunk_format.specs.Parts.{delta_of}
use Rattle.chunk_format.proofs.Gone.{no_delta, delta_and_more}
use Rattle.chunk_format.proofs.lists.wrong_delta.Goals as goal

pub returns-in_default : goal.returns-in_default
returns-in_default c = no_delta c.args.body.now c.in_default.ensures

pub returns-then-len-body : goal.returns-then-len-body
returns-then-len-body c =
    let split = c.in-Some.ensures in delta_and_more c.args.body.now (delta_of c.in-Some.field-0-0) c.in-Some.len split.0 split.1 split.2 c.if-len-body.true
