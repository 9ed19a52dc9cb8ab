use Rattle.session_core.specs.Speaking.{spoken}
use Rattle.session_core.proofs.Answering.{on_ok}
use Rattle.session_core.proofs.Leading.{opens}
use Rattle.session_core.proofs.PollParts.{open_adds}
use Rattle.session_core.proofs.polling.poll_open.Goals as goal

pub returns-clause-ok : goal.returns-clause-ok
returns-clause-ok g c =
    on_ok c.deliver_all.result (λ last. opens g.H.Hub.meaning c.args.tables.now c.args.out.now c.tell_confirms.new.out c.end_streams.new.tables c.end_streams.new.out c.turn_all.new.tables c.turn_all.new.out (spoken c.deliver_all.new.out c.deliver_all.new.tables)
    c.args.hub.now c.tell_confirms.new.hub c.end_streams.new.hub c.turn_all.new.hub c.deliver_all.new.hub c.in_ok-tell_confirms.ensures.ok c.in_ok-end_streams.ensures.ok c.in_ok-turn_all.ensures.ok last) c.deliver_all.ensures.ok

pub returns-clause-adds : goal.returns-clause-adds
returns-clause-adds g c =
    on_ok c.deliver_all.result (λ last. open_adds g.H.Hub.meaning g.met.H.Hub.laws c.args.tables.now c.args.out.now c.args.hub.now c.deliver_all.new.tables c.deliver_all.new.out c.deliver_all.new.hub (opens g.H.Hub.meaning c.args.tables.now c.args.out.now c.tell_confirms.new.out c.end_streams.new.tables c.end_streams.new.out c.turn_all.new.tables c.turn_all.new.out (spoken c.deliver_all.new.out c.deliver_all.new.tables)
    c.args.hub.now c.tell_confirms.new.hub c.end_streams.new.hub c.turn_all.new.hub c.deliver_all.new.hub c.in_ok-tell_confirms.ensures.ok c.in_ok-end_streams.ensures.ok c.in_ok-turn_all.ensures.ok last)) c.deliver_all.ensures.ok
