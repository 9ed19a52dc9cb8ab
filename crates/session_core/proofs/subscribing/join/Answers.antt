use Rattle.std.proofs.Common.{List, ap}
use Rattle.session_tables.specs.declared.streams.StreamName.{StreamName}
use Rattle.session_tables.specs.declared.tables.Tables.{Tables}
use Rattle.session_core.proofs.Joining.{joins, joining_refused}
use Rattle.session_core.proofs.subscribing.join.Goals as goal

pub returns-in-Ok-clause-ok : goal.returns-in-Ok-clause-ok
returns-in-Ok-clause-ok g c =
    let t : Tables = c.args.tables.now in
    joins g.H.Hub.meaning t (record t { streams = c.know.new.self }) c.put.new.self c.args.wish.now c.args.stream c.args.epoch c.args.group.now c.consumer.result c.one_with.result c.args.hub.now c.join.new.self c.in-Ok.field-0 c.told.result
    (ap (λ (names : List StreamName). record t { streams = names }) c.in_ok-know.ensures.ok) c.consumer.ensures c.in-Ok.ensures c.one_with.ensures c.put.ensures c.told.ensures

pub returns-in-Err-clause-lost : goal.returns-in-Err-clause-lost
returns-in-Err-clause-lost g c =
    joining_refused g.H.Hub.meaning c.args.tables.now c.args.wish.now c.args.stream c.args.group.now c.consumer.result c.in-Err.refused c.args.hub.now c.join.new.self c.consumer.ensures c.in-Err.ensures
