use Rattle.std.proofs.Common.{◌∙◌}
use Rattle.segment_pairs.proofs.Moving.{did_done}
use Rattle.segment_store.proofs.Trimming.{all_between}
use Rattle.segment_store.proofs.cut.cut_log.Goals as goal

pub trim_chunks-requires : goal.trim_chunks-requires
trim_chunks-requires g c = λ told.
    let (segments, kept, stands, ends) = c.requires told in
    let d = c.drop_segments.ensures.done told (did_done _ c.in_default.not-Failed) segments kept stands ends in
    (d.last, d.older, kept, d.can)

pub returns-clause-images : goal.returns-clause-images
returns-clause-images g c = λ told segments kept stands ends.
    let d = c.drop_segments.ensures.done told (did_done _ c.in_default.not-Failed) segments kept stands ends in
    all_between _ _ kept _ segments _ (g.D.Disk.state c.trim_chunks.new.disk) d (c.trim_chunks.ensures.images told d.last d.older kept d.can)

pub returns-clause-done : goal.returns-clause-done
returns-clause-done g c = λ told did segments kept stands ends.
    let d = c.drop_segments.ensures.done told (did_done _ c.in_default.not-Failed) segments kept stands ends in
    let now = c.trim_chunks.ensures.done told did d.last d.older kept d.can in
    (now.0, now.1, now.2 ∙ d.same)
