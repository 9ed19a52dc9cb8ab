use Rattle.session_core.proofs.Leading.{slots_next, slots_all}
use Rattle.session_core.proofs.delivering.deliver_all.Goals as goal

pub ids-init : goal.ids-init
ids-init g c = record { so = λ got new run. run; later = g.met.H.Hub.laws.seen.same c.args.hub.now }

pub ids-preserved : goal.ids-preserved
ids-preserved g c = record {
  so = slots_next g.H.Hub.meaning 256 c.args.tables.now c.ids.tables c.deliver_at.new.tables c.args.out.now c.ids.out c.deliver_at.new.out c.ids.id c.args.hub.now c.ids.hub c.deliver_at.new.hub c.ids.invariant.so c.ids-test.true c.in_ok-deliver_at.ensures.ok;
  later = g.met.H.Hub.laws.seen.joins c.args.hub.now c.ids.hub c.deliver_at.new.hub c.ids.invariant.later c.in_ok-deliver_at.ensures.later;
}

pub returns-clause-ok : goal.returns-clause-ok
returns-clause-ok g c = slots_all g.H.Hub.meaning 256 c.args.tables.now c.ids.tables c.args.out.now c.ids.out c.ids.id c.args.hub.now c.ids.hub c.ids.invariant.so c.ids-test.false
