use Rattle.std.proofs.Common.{◌∷◌, arith, refl}
use Rattle.segment_pairs.proofs.Lifting.{outside_log}
use Rattle.segment_pairs.proofs.Moving.{did_done}
use Rattle.segment_store.proofs.Writing.{old_log, can_write, held_at, chunk_added}
use Rattle.segment_store.proofs.Keeping.{added_recoverable, held_recoverable}
use Rattle.segment_store.proofs.write.add_chunk.Goals as goal

pub returns-in_err-push-clause-images : goal.returns-in_err-push-clause-images
returns-in_err-push-clause-images g c = λ told x older stands is. old_log _ _ _ _ _ stands

pub returns-in_err-push-clause-memory : goal.returns-in_err-push-clause-memory
returns-in_err-push-clause-memory g c = λ memory. (c.in_err-push.ensures.items, refl)

pub write_last-requires : goal.write_last-requires
write_last-requires g c = λ told.
    let (x, older, stands, is) = c.requires.stands told in
    (x.chunks, can_write _ _ x older c.args.last _ _ _ stands is c.row_of.ensures.is_chunk c.requires.first c.index_place.ensures)

pub returns-in-Failed-clause-images : goal.returns-in-Failed-clause-images
returns-in-Failed-clause-images g c = λ told x older stands is.
    c.write_last.ensures.images told older x.chunks (held_at _ _ x older _ is.segment stands.held) (can_write _ _ x older c.args.last _ _ _ stands is c.row_of.ensures.is_chunk c.requires.first c.index_place.ensures)

pub returns-in-Failed-clause-others : goal.returns-in-Failed-clause-others
returns-in-Failed-clause-others g c = outside_log _ _ _ _ c.write_last.ensures.others

pub returns-clause-images : goal.returns-clause-images
returns-clause-images g c = λ told x older stands is.
    c.write_last.ensures.images told older x.chunks (held_at _ _ x older _ is.segment stands.held) (can_write _ _ x older c.args.last _ _ _ stands is c.row_of.ensures.is_chunk c.requires.first c.index_place.ensures)

pub returns-clause-done : goal.returns-clause-done
returns-clause-done g c = λ told x older stands is.
    let can = can_write _ _ x older c.args.last _ _ _ stands is c.row_of.ensures.is_chunk c.requires.first c.index_place.ensures in
    let held = c.write_last.ensures.done told (did_done _ c.in_default.not-Failed) older x.chunks (held_at _ _ x older _ is.segment stands.held) can in
    chunk_added _ _ _ _ x older c.args.last _ _ _ stands is c.requires.size (c.row_of.ensures.row (omega (arith, c.requires.size))) c.in_ok-push.ensures.items held

pub returns-clause-others : goal.returns-clause-others
returns-clause-others g c = outside_log _ _ _ _ c.write_last.ensures.others

pub returns-in_err-push-clause-recoverable : goal.returns-in_err-push-clause-recoverable
returns-in_err-push-clause-recoverable g c = λ told.
    let (x, older, stands, is) = c.requires.stands told in
    held_recoverable _ _ (x ∷ older) _ stands

pub returns-in-Failed-clause-recoverable : goal.returns-in-Failed-clause-recoverable
returns-in-Failed-clause-recoverable g c = λ told.
    let (x, older, stands, is) = c.requires.stands told in
    let can = can_write _ _ x older c.args.last _ _ _ stands is c.row_of.ensures.is_chunk c.requires.first c.index_place.ensures in
    added_recoverable _ _ _ x older _ (g.D.Disk.state c.write_last.new.disk) is.segment stands c.write_last.ensures.others (c.write_last.ensures.left told x.chunks can)

pub returns-clause-recoverable : goal.returns-clause-recoverable
returns-clause-recoverable g c = λ told.
    let (x, older, stands, is) = c.requires.stands told in
    let can = can_write _ _ x older c.args.last _ _ _ stands is c.row_of.ensures.is_chunk c.requires.first c.index_place.ensures in
    added_recoverable _ _ _ x older _ (g.D.Disk.state c.write_last.new.disk) is.segment stands c.write_last.ensures.others (c.write_last.ensures.left told x.chunks can)
