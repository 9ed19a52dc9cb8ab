use Rattle.chunk_format.proofs.TagLaws.{offset_no_tag, no_delta_no_tag}
use Rattle.chunk_format.proofs.tracking.split_tag.Goals as goal

pub returns-in-Some-Offset-default : goal.returns-in-Some-Offset-default
returns-in-Some-Offset-default c =
    let here = c.in-Some-Offset-default in
    let split = rw here.field-0-0-is at here.ensures in
    offset_no_tag c.args.bytes.now here.field-0-0-0.now here.field-0-0-1 here.field-0-1 split.0 split.1

pub returns-in-None : goal.returns-in-None
returns-in-None c = no_delta_no_tag c.args.bytes.now c.in-None.ensures
