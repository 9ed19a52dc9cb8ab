use Rattle.hub_terms.specs.Calls.{Changing}
use Rattle.session_core.proofs.Leading.{turns_next, turns_stop, turns_all}
use Rattle.session_core.proofs.turning.turn_all.Goals as goal

pub turns-init : goal.turns-init
turns-init g c = record { so = λ got new run. run; later = g.met.H.Hub.laws.seen.same c.args.hub.now }

pub turns-preserved : goal.turns-preserved
turns-preserved g c = record {
  so = turns_next g.H.Hub.meaning 256 c.args.tables.now c.turns.tables c.turn.new.tables c.args.out.now c.turns.out c.turn.new.out c.turns.count c.args.hub.now c.turns.hub c.change.new.self c.in-Some.change c.turns.invariant.so c.turns-test.true c.in-Some.ensures c.in_ok-turn-in-Some.ensures;
  later = g.met.H.Hub.laws.seen.joins c.args.hub.now c.turns.hub c.change.new.self c.turns.invariant.later (g.met.H.Hub.laws.called (Changing c.turns.tables.number) _ _ _ c.change.ensures).later;
}

pub returns-in-None-clause-ok : goal.returns-in-None-clause-ok
returns-in-None-clause-ok g c = turns_stop g.H.Hub.meaning 256 c.args.tables.now c.turns.tables c.args.out.now c.turns.out c.turns.count c.args.hub.now c.turns.hub c.change.new.self c.turns.invariant.so c.turns-test.true c.in-None.ensures

pub returns-clause-ok : goal.returns-clause-ok
returns-clause-ok g c = turns_all g.H.Hub.meaning 256 c.args.tables.now c.turns.tables c.args.out.now c.turns.out c.turns.count c.args.hub.now c.turns.hub c.turns.invariant.so c.turns-test.false
