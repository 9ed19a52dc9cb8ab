use Rattle.std.proofs.Common.{take}
use Rattle.tracking_state.proofs.Calls.{truthful_more, tracks_more}
use Rattle.tracking_state.proofs.tracking.first_untruthful.Goals as goal

pub loop-place-preserved : goal.loop-place-preserved
loop-place-preserved c =
    let log = c.args.log.now in
    let place = c.loop-place.place in
    let chunk = c.index-log-place.result in
    let before = c.loop-place.invariant in
    let agrees = (c.in_ok-agrees.ensures (take place log) before.tracks).0 c.if-not-branch.false in
    record {
      truthful = truthful_more log place chunk c.loop-place-test.true c.index-log-place.is before.truthful agrees;
      tracks = tracks_more log place chunk c.apply.new.self c.loop-place-test.true c.index-log-place.is (c.in_ok-apply.ensures.tracks (take place log) before.tracks);
    }
