use Rattle.chunk_format.proofs.BackLaws.{front}
use Rattle.chunk_format.proofs.stored.read_stored.Goals as goal

pub invariant_of-result : goal.invariant_of-result
invariant_of-result c = (front c.in-Ok.header c.args.bytes.now c.in-Ok-copy_from_slice.bytes c.in-Ok.ensures.found c.in-Ok-copy_from_slice.ensures).viewed

pub returns-in-Ok-copy_from_slice : goal.returns-in-Ok-copy_from_slice
returns-in-Ok-copy_from_slice c = (front c.in-Ok.header c.args.bytes.now c.in-Ok-copy_from_slice.bytes c.in-Ok.ensures.found c.in-Ok-copy_from_slice.ensures).begins
