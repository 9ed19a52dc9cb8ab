use Rattle.std.proofs.Common.{arith}
use Rattle.segment_pairs.specs.Held.{Front, all_chunks}
use Rattle.segment_pairs.proofs.Lifting.{each_log, held_stays, missing_from_stays, lift_cut}
use Rattle.segment_pairs.proofs.stream.cut_last.Goals as goal

pub returns-clause-images : goal.returns-clause-images
returns-clause-images g c = λ told older cs left held can F pick picks.
    let besides = c.cut_pair.ensures.others in
    lift_cut (all_chunks older) cs _ left (each_log _ _ older (Front left cs) _ held.under held.follows (held_stays _ _ _ older _ _ besides (omega arith) held.below) (missing_from_stays _ _ _ _ _ _ besides (omega arith) held.above) (c.cut_pair.ensures.images told cs left can) F pick picks)

pub returns-clause-done : goal.returns-clause-done
returns-clause-done g c = λ told did older cs left held can.
    let besides = c.cut_pair.ensures.others in
    record {
      under = held.under;
      follows = held.follows;
      stands = c.cut_pair.ensures.done told did cs left can;
      above = missing_from_stays _ _ _ _ _ _ besides (omega arith) held.above;
      below = held_stays _ _ _ older _ _ besides (omega arith) held.below;
    }
