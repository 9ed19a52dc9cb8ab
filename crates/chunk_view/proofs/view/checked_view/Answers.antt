use Rattle.std.proofs.Common.{refl}
use Rattle.chunk_format.specs.Faults.{whole_len}
use Rattle.chunk_format.proofs.BackLaws.{front}
use Rattle.chunk_view.proofs.view.checked_view.Goals as goal

pub invariant_of-result : goal.invariant_of-result
invariant_of-result c = (front c.in-Ok.header c.args.bytes.now _ c.in-Ok.ensures.found refl).viewed

pub returns-in-Ok : goal.returns-in-Ok
returns-in-Ok c = (whole_len c.in-Ok.header, (front c.in-Ok.header c.args.bytes.now _ c.in-Ok.ensures.found refl).begins)
