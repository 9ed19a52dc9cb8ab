use Rattle.segment_pairs.proofs.Lifting.{one_leaves, one_left}
use Rattle.segment_pairs.proofs.stream.remove_last.Goals as goal

pub returns-clause-images : goal.returns-clause-images
returns-clause-images g c = λ told older cs held.
    one_leaves c.args.stream (record { number = c.args.number; chunks = cs }) older (g.D.Disk.state c.args.disk.now) _ held c.remove_pair.ensures.images c.remove_pair.ensures.others

pub returns-clause-done : goal.returns-clause-done
returns-clause-done g c = λ told did older cs held.
    one_left c.args.stream (record { number = c.args.number; chunks = cs }) older (g.D.Disk.state c.args.disk.now) _ held (c.remove_pair.ensures.done told did) c.remove_pair.ensures.others
