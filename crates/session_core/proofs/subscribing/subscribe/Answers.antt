use Rattle.session_core.proofs.Joining.{subscribe_lost, if_err}
use Rattle.session_core.proofs.subscribing.subscribe.Goals as goal

pub returns-in-Running-clause-lost : goal.returns-in-Running-clause-lost
returns-in-Running-clause-lost g c =
    if_err c.subscribe_at.result (subscribe_lost g.H.Hub.meaning c.args.tables.now c.count-last.new.self c.args.wish.now c.bytes_of.result.now c.find.result c.args.hub.now c.find.new.self c.subscribe_at.new.hub c.count-last.ensures.new c.bytes_of.ensures c.find.ensures) c.subscribe_at.ensures.lost
