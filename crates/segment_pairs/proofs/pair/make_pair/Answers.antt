use Rattle.std.proofs.Common.{arith}
use Rattle.segment_pairs.proofs.Moving.{did_done, settled_is}
use Rattle.segment_pairs.proofs.Making.{first_goes, second_goes, both_made, index_at_most}
use Rattle.segment_pairs.proofs.Leaving.{new_segment_leaves, new_index_leaves}
use Rattle.segment_pairs.proofs.pair.make_pair.Goals as goal

pub returns-in-Failed-clause-images : goal.returns-in-Failed-clause-images
returns-in-Failed-clause-images g c = λ told. first_goes _ _ _ _ _ (c.requires.missing told) c.make_file.ensures.others

pub returns-clause-images : goal.returns-clause-images
returns-clause-images g c = λ told.
    let now = settled_is _ _ _ _ c.requires.whole (c.make_file.ensures.done told (did_done _ c.in_default.not-Failed)) in
    let none = index_at_most _ _ 37 _ _ (c.requires.missing told) c.make_file.ensures.others in
    second_goes _ _ _ _ _ c.requires.first c.index_bytes-index_bytes.ensures.is_chunk now (c.make_file-2.ensures.images 37 (omega arith) none) c.make_file-2.ensures.others

pub returns-clause-done : goal.returns-clause-done
returns-clause-done g c = λ told did.
    let now = settled_is _ _ _ _ c.requires.whole (c.make_file.ensures.done told (did_done _ c.in_default.not-Failed)) in
    let index = settled_is _ _ _ _ c.index_bytes-index_bytes.ensures.bytes (c.make_file-2.ensures.done told did) in
    both_made _ _ _ _ _ c.requires.first c.index_bytes-index_bytes.ensures.is_chunk now index c.make_file-2.ensures.others

pub returns-in-Failed-clause-left : goal.returns-in-Failed-clause-left
returns-in-Failed-clause-left g c = λ told some. new_segment_leaves _ _ _ _ some (c.requires.missing told) c.make_file.ensures.others

pub returns-clause-left : goal.returns-clause-left
returns-clause-left g c = λ told some.
    let none = index_at_most _ _ 37 _ _ (c.requires.missing told) c.make_file.ensures.others in
    new_index_leaves _ _ _ _ _ some (c.make_file.ensures.done told (did_done _ c.in_default.not-Failed)) (c.make_file-2.ensures.images 37 (omega arith) none) c.make_file-2.ensures.others
