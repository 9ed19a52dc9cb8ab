use Rattle.std.proofs.Common.{refl, arith}
use Rattle.segment_pairs.proofs.Moving.{did_done}
use Rattle.segment_pairs.proofs.Making.{index_at_most, no_log, both_begun}
use Rattle.segment_pairs.proofs.Leaving.{first_segment_leaves, first_index_leaves}
use Rattle.segment_pairs.proofs.pair.begin_pair.Goals as goal

pub returns-in-Failed-clause-images : goal.returns-in-Failed-clause-images
returns-in-Failed-clause-images g c = λ told. no_log c.args.stream 0 (g.D.Disk.state c.make_file.new.disk) (index_at_most _ _ 8 _ _ (c.requires told) c.make_file.ensures.others)

pub returns-clause-images : goal.returns-clause-images
returns-clause-images g c = λ told. no_log c.args.stream 0 (g.D.Disk.state c.make_file-2.new.disk) (c.make_file-2.ensures.images 8 (omega arith) (index_at_most _ _ 8 _ _ (c.requires told) c.make_file.ensures.others))

pub returns-clause-done : goal.returns-clause-done
returns-clause-done g c = λ told did.
    both_begun _ _ _ _ _ refl refl (c.make_file.ensures.done told (did_done _ c.in_default.not-Failed)) (c.make_file-2.ensures.done told did) c.make_file-2.ensures.others

pub returns-in-Failed-clause-left : goal.returns-in-Failed-clause-left
returns-in-Failed-clause-left g c = λ told short. first_segment_leaves _ _ _ (c.requires told) (c.make_file.ensures.images 8 (omega arith) short) c.make_file.ensures.others

pub returns-clause-left : goal.returns-clause-left
returns-clause-left g c = λ told short.
    let none = index_at_most _ _ 8 _ _ (c.requires told) c.make_file.ensures.others in
    first_index_leaves _ _ _ _ (omega arith) (c.make_file.ensures.done told (did_done _ c.in_default.not-Failed)) (c.make_file-2.ensures.images 8 (omega arith) none) c.make_file-2.ensures.others
