use Rattle.tracking_state.specs.declared.note.Latest.{Latest}
use Rattle.tracking_state.proofs.Listed.{id_after, offset_after}
use Rattle.tracking_state.proofs.tracking.Tracking.note.Goals as goal

pub invariant_of-self : goal.invariant_of-self
invariant_of-self c =
    let inside = c.self.inside in
    let arm = c.in-Sequence in
    let l : Latest = record { id = arm.id; first = arm.first } in
    id_after c.note_id.result inside.len c.note_id.new.len inside.references c.note_id.new.references inside.consumers arm.name.now l c.note_id.ensures.ok c.note_id.ensures.len c.note_id.ensures.err
    (rw arm.is at c.requires) c.self.invariant

pub invariant_of-self-in-Offset : goal.invariant_of-self-in-Offset
invariant_of-self-in-Offset c =
    let inside = c.self.inside in
    let arm = c.in-Offset in
    offset_after c.note_offset.result inside.len c.note_offset.new.len inside.references inside.consumers c.note_offset.new.consumers arm.name.now arm.offset c.note_offset.ensures.ok c.note_offset.ensures.len c.note_offset.ensures.err
    (rw arm.is at c.requires) c.self.invariant
