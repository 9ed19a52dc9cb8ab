use Rattle.chunk_format.proofs.EntryLaws.{one_is_simple, one_is_batch, one_is_none}
use Rattle.chunk_format.proofs.check.body_of_one.Goals as goal

pub returns-in-Some-Simple-default : goal.returns-in-Some-Simple-default
returns-in-Some-Simple-default c = λ all are.
    let here = c.in-Some-Simple-default in
    let split = rw here.field-0-0-is at here.ensures in
    one_is_simple c.args.entries here.field-0-1 c.args.payload.now here.body.now all c.if-entries-ne1.false split.0 split.1 are

pub returns-in-Some-Batch-default : goal.returns-in-Some-Batch-default
returns-in-Some-Batch-default c = λ all are.
    let here = c.in-Some-Batch-default in
    let split = rw here.field-0-0-is at here.ensures in
    one_is_batch c.args.entries here.field-0-1 c.args.payload.now here.field-0-0-0 here.field-0-0-1 here.field-0-0-2 here.field-0-0-3 here.field-0-0-4.now all c.if-entries-ne1.false split.0 split.1 are

pub returns-in-None : goal.returns-in-None
returns-in-None c = λ all are. one_is_none c.args.entries c.args.payload.now all c.if-entries-ne1.false c.in-None.ensures are
