use Rattle.std.proofs.Common.{◌≡◌, arith, refl, ap, ◌∷◌}
use Rattle.chunk_format.specs.declared.chunk.Header.{Header}
use Rattle.segment_pairs.proofs.Lifting.{outside_log}
use Rattle.segment_pairs.proofs.Moving.{did_done}
use Rattle.segment_store.proofs.Writing.{old_log, can_begin, segment_added, ends_there}
use Rattle.segment_store.proofs.Keeping.{begun_recoverable, held_recoverable}
use Rattle.segment_store.proofs.write.begin_segment.Goals as goal

pub returns-in_err-bytes-clause-images : goal.returns-in_err-bytes-clause-images
returns-in_err-bytes-clause-images g c = λ told x older stands full. old_log _ _ _ _ _ stands

pub returns-in_err-push-clause-images : goal.returns-in_err-push-clause-images
returns-in_err-push-clause-images g c = λ told x older stands full. old_log _ _ _ _ _ stands

pub returns-in_err-push-clause-memory : goal.returns-in_err-push-clause-memory
returns-in_err-push-clause-memory g c = λ memory. (c.in_err-push.ensures.items, refl)

pub write_new-requires-clause-can : goal.write_new-requires-clause-can
write_new-requires-clause-can g c = λ told.
    let (x, older, stands, full) = c.requires.stands told in
    (x ∷ older, can_begin _ _ _ x older _ stands full (ends_there _ _ _ _ (ap (λ (h : Header). h.first) c.header.ensures.header) c.requires.first))

pub returns-in-Failed-clause-images : goal.returns-in-Failed-clause-images
returns-in-Failed-clause-images g c = λ told x older stands full.
    c.write_new.ensures.images told (x ∷ older) (can_begin _ _ _ x older _ stands full (ends_there _ _ _ _ (ap (λ (h : Header). h.first) c.header.ensures.header) c.requires.first))

pub returns-in-Failed-clause-others : goal.returns-in-Failed-clause-others
returns-in-Failed-clause-others g c = outside_log _ _ _ _ c.write_new.ensures.others

pub returns-clause-images : goal.returns-clause-images
returns-clause-images g c = λ told x older stands full.
    c.write_new.ensures.images told (x ∷ older) (can_begin _ _ _ x older _ stands full (ends_there _ _ _ _ (ap (λ (h : Header). h.first) c.header.ensures.header) c.requires.first))

pub returns-clause-done : goal.returns-clause-done
returns-clause-done g c = λ told x older stands full.
    let first : c.header.result.now.first ≡ c.args.chunk.now.first = ap (λ (h : Header). h.first) c.header.ensures.header in
    let can = can_begin _ _ _ x older _ stands full (ends_there _ _ _ _ first c.requires.first) in
    let held = c.write_new.ensures.done told (did_done _ c.in_default.not-Failed) (x ∷ older) can in
    segment_added _ _ _ _ x older _ _ _ _ stands full first (c.row_of.ensures.row (omega arith)) c.in_ok-push.ensures.items held

pub returns-clause-others : goal.returns-clause-others
returns-clause-others g c = outside_log _ _ _ _ c.write_new.ensures.others

pub returns-in_err-bytes-clause-recoverable : goal.returns-in_err-bytes-clause-recoverable
returns-in_err-bytes-clause-recoverable g c = λ told.
    let (x, older, stands, full) = c.requires.stands told in
    held_recoverable _ _ (x ∷ older) _ stands

pub returns-in_err-push-clause-recoverable : goal.returns-in_err-push-clause-recoverable
returns-in_err-push-clause-recoverable g c = λ told.
    let (x, older, stands, full) = c.requires.stands told in
    held_recoverable _ _ (x ∷ older) _ stands

pub returns-in-Failed-clause-recoverable : goal.returns-in-Failed-clause-recoverable
returns-in-Failed-clause-recoverable g c = λ told.
    let (x, older, stands, full) = c.requires.stands told in
    let can = can_begin _ _ _ x older _ stands full (ends_there _ _ _ _ (ap (λ (h : Header). h.first) c.header.ensures.header) c.requires.first) in
    begun_recoverable _ _ x older _ (g.D.Disk.state c.write_new.new.disk) (omega arith) can c.write_new.ensures.others (c.write_new.ensures.left told)

pub returns-clause-recoverable : goal.returns-clause-recoverable
returns-clause-recoverable g c = λ told.
    let (x, older, stands, full) = c.requires.stands told in
    let can = can_begin _ _ _ x older _ stands full (ends_there _ _ _ _ (ap (λ (h : Header). h.first) c.header.ensures.header) c.requires.first) in
    begun_recoverable _ _ x older _ (g.D.Disk.state c.write_new.new.disk) (omega arith) can c.write_new.ensures.others (c.write_new.ensures.left told)
