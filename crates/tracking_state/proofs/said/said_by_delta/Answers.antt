use Rattle.std.proofs.Common.{refl}
use Rattle.chunk_format.specs.declared.tracking.SnapshotParts.TheVariants.{Offset}
use Rattle.tracking_state.proofs.Reading.{offset_said, sequence_said, delta_there}
use Rattle.tracking_state.proofs.said.said_by_delta.Goals as goal

pub returns-in-Some-Offset-default : goal.returns-in-Some-Offset-default
returns-in-Some-Offset-default c delta spells =
    let arm = c.in-Some-Offset-default in
    let split = rw arm.field-0-0-is at arm.ensures in
    offset_said c.args.body.now arm.name.now arm.offset arm.field-0-1 delta split.0 split.1 spells (Offset arm.name arm.offset) refl

pub returns-in-Some-Sequence-default : goal.returns-in-Some-Sequence-default
returns-in-Some-Sequence-default c delta spells =
    let arm = c.in-Some-Sequence-default in
    let split = rw arm.field-0-0-is at arm.ensures in
    sequence_said c.args.body.now arm.field-0-0-0.now arm.field-0-0-1 arm.field-0-1 delta split.0 split.1 spells

pub returns-in-None : goal.returns-in-None
returns-in-None c delta spells = absurd (delta_there c.args.body.now delta spells c.in-None.ensures)
