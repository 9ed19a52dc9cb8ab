use Rattle.std.proofs.Common.{refl}
use Rattle.chunk_format.proofs.EntryLaws.{one_is_simple, one_is_batch, one_is_none}
use Rattle.tracking_state.proofs.StoredParts.{one_body}
use Rattle.tracking_state.proofs.parts.first_body.Goals as goal

pub returns-in-Some-Simple-default : goal.returns-in-Some-Simple-default
returns-in-Some-Simple-default c = λ all body are one.
    let here = c.in-Some-Simple-default in
    let split = rw here.field-0-0-is at here.ensures in
    one_body all here.body.now body (one_is_simple 1 here.field-0-1 c.args.payload.now here.body.now all refl split.0 split.1 are) one

pub returns-in-Some-Batch-default : goal.returns-in-Some-Batch-default
returns-in-Some-Batch-default c = λ all body are one.
    let here = c.in-Some-Batch-default in
    let split = rw here.field-0-0-is at here.ensures in
    absurd (one_is_batch 1 here.field-0-1 c.args.payload.now here.field-0-0-0 here.field-0-0-1 here.field-0-0-2 here.field-0-0-3 here.body.now all refl split.0 split.1 are body one)

pub returns-in-None : goal.returns-in-None
returns-in-None c = λ all body are one. absurd (one_is_none 1 c.args.payload.now all refl c.in-None.ensures are body one)
