use Rattle.std.proofs.Common.{arith, []}
use Rattle.segment_pairs.specs.Held.{OldOrNew, all_chunks}
use Rattle.segment_pairs.proofs.Lifting.{each_log, begin_next, held_stays, missing_from_stays, lift_new}
use Rattle.segment_pairs.proofs.stream.write_new.Goals as goal

pub make_pair-requires-clause-missing : goal.make_pair-requires-clause-missing
make_pair-requires-clause-missing g c = λ told.
    let (segments, can) = c.requires.can told in
    (begin_next _ c.args.number segments _ can (omega (arith, c.ranges.number))).1 c.args.number (omega arith) (omega (arith, c.ranges.number))

pub returns-clause-images : goal.returns-clause-images
returns-clause-images g c = λ told segments can F pick picks.
    let besides = c.make_pair.ensures.others in
    let next = begin_next _ c.args.number segments _ can (omega (arith, c.ranges.number)) in
    lift_new (all_chunks segments) _ _ (each_log _ _ segments (OldOrNew [] c.args.chunk.now) _ (omega (arith, c.ranges.number)) can.follows (held_stays _ _ _ segments _ _ besides (omega arith) next.0) (missing_from_stays _ _ _ _ _ _ besides (omega arith) (λ i ge. next.1 i (omega (arith, ge)))) (c.make_pair.ensures.images told) F pick picks)

pub returns-clause-done : goal.returns-clause-done
returns-clause-done g c = λ told did segments can.
    let besides = c.make_pair.ensures.others in
    let next = begin_next _ c.args.number segments _ can (omega (arith, c.ranges.number)) in
    record {
      under = omega (arith, c.ranges.number);
      follows = can.follows;
      stands = c.make_pair.ensures.done told did;
      above = missing_from_stays _ _ _ _ _ _ besides (omega arith) (λ i ge. next.1 i (omega (arith, ge)));
      below = held_stays _ _ _ segments _ _ besides (omega arith) next.0;
    }
