use Rattle.session_core.proofs.Leading.{left_slot, left_all}
use Rattle.session_core.proofs.ending.leave_all.Goals as goal

pub slots-preserved : goal.slots-preserved
slots-preserved g c = record {
  so = left_slot g.H.Hub.meaning c.args.tables.now c.args.stream c.args.running c.args.slots.now c.slots.slot-index c.args.hub.now c.slots.hub c.leave.new.hub _ c.slots.invariant.so c.slots-test.true c.leave.ensures.left;
  later = g.met.H.Hub.laws.seen.joins _ _ _ c.slots.invariant.later c.leave.ensures.later;
}

pub returns-clause-left : goal.returns-clause-left
returns-clause-left g c =
    left_all g.H.Hub.meaning c.args.tables.now c.args.stream c.args.running c.args.slots.now c.slots.slot-index c.args.hub.now c.slots.hub c.slots.invariant.so c.slots-test.false
