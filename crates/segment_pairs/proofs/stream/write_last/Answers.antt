use Rattle.std.proofs.Common.{arith}
use Rattle.segment_pairs.specs.Held.{OldOrNew, all_chunks}
use Rattle.segment_pairs.proofs.Lifting.{each_log, held_stays, missing_from_stays, lift_write}
use Rattle.segment_pairs.proofs.stream.write_last.Goals as goal

pub returns-clause-images : goal.returns-clause-images
returns-clause-images g c = λ told older cs held can F pick picks.
    let besides = c.write_pair.ensures.others in
    lift_write (all_chunks older) cs _ _ (each_log _ _ older (OldOrNew cs c.args.chunk.now) _ held.under held.follows (held_stays _ _ _ older _ _ besides (omega arith) held.below) (missing_from_stays _ _ _ _ _ _ besides (omega arith) held.above) (c.write_pair.ensures.images told cs can) F pick picks)

pub returns-clause-done : goal.returns-clause-done
returns-clause-done g c = λ told did older cs held can.
    let besides = c.write_pair.ensures.others in
    record {
      under = held.under;
      follows = held.follows;
      stands = c.write_pair.ensures.done told did cs can;
      above = missing_from_stays _ _ _ _ _ _ besides (omega arith) held.above;
      below = held_stays _ _ _ older _ _ besides (omega arith) held.below;
    }
