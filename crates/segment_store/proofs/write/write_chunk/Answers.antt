use Rattle.std.proofs.Common.{arith, ◌∙◌}
use Rattle.segment_store.proofs.Writing.{can_look, first_of, images_first, done_first}
use Rattle.segment_store.proofs.write.write_chunk.Goals as goal

pub add_chunk-requires-clause-stands : goal.add_chunk-requires-clause-stands
add_chunk-requires-clause-stands g c = λ told.
    let (segments, stands) = c.requires.stands told in
    let some = first_of _ _ segments _ stands in
    (some.0, some.1, some.2, c.last_at-last.ensures some.0 some.1 (c.deref.ensures.value ∙ some.2.are) (can_look _ _ some.0 some.1 _ some.2))

pub returns-then-last-lt-SEGMENT_SIZE-clause-images : goal.returns-then-last-lt-SEGMENT_SIZE-clause-images
returns-then-last-lt-SEGMENT_SIZE-clause-images g c = λ told segments stands.
    images_first _ _ segments _ _ (g.D.Disk.state c.add_chunk.new.disk) stands (λ x older here. c.add_chunk.ensures.images told x older here (c.last_at-last.ensures x older (c.deref.ensures.value ∙ here.are) (can_look _ _ x older _ here)))

pub returns-then-last-lt-SEGMENT_SIZE-clause-done : goal.returns-then-last-lt-SEGMENT_SIZE-clause-done
returns-then-last-lt-SEGMENT_SIZE-clause-done g c = λ told segments stands.
    done_first _ _ _ _ segments _ _ _ stands (λ x older here. c.add_chunk.ensures.done told x older here (c.last_at-last.ensures x older (c.deref.ensures.value ∙ here.are) (can_look _ _ x older _ here)))

pub begin_segment-requires-clause-stands : goal.begin_segment-requires-clause-stands
begin_segment-requires-clause-stands g c = λ told.
    let (segments, stands) = c.requires.stands told in
    let some = first_of _ _ segments _ stands in
    let is = c.last_at-last.ensures some.0 some.1 (c.deref.ensures.value ∙ some.2.are) (can_look _ _ some.0 some.1 _ some.2) in
    (some.0, some.1, some.2, omega (arith, is.size))

pub returns-clause-images : goal.returns-clause-images
returns-clause-images g c = λ told segments stands.
    images_first _ _ segments _ _ (g.D.Disk.state c.begin_segment.new.disk) stands (λ x older here. let is = c.last_at-last.ensures x older (c.deref.ensures.value ∙ here.are) (can_look _ _ x older _ here) in c.begin_segment.ensures.images told x older here (omega (arith, is.size)))

pub returns-clause-done : goal.returns-clause-done
returns-clause-done g c = λ told segments stands.
    done_first _ _ _ _ segments _ _ _ stands (λ x older here. let is = c.last_at-last.ensures x older (c.deref.ensures.value ∙ here.are) (can_look _ _ x older _ here) in c.begin_segment.ensures.done told x older here (omega (arith, is.size)))
