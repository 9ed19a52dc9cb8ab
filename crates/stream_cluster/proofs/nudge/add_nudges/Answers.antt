use Rattle.stream_cluster.proofs.Sendings.{nudged_on, nudged_all}
use Rattle.stream_cluster.proofs.nudge.add_nudges.Goals as goal

pub loop-seat-preserved : goal.loop-seat-preserved
loop-seat-preserved c =
    nudged_on c.args.seats.now c.loop-seat.seat-index c.seat-item.result c.loop-seat.sent _ _ c.loop-seat-test.true c.seat-item.is c.in_ok-add_nudge.ensures c.loop-seat.invariant

pub returns : goal.returns
returns c = nudged_all c.args.seats.now c.loop-seat.seat-index c.loop-seat.sent _ c.loop-seat-test.false c.loop-seat.invariant
