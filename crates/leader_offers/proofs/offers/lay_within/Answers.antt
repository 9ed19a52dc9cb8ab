use Rattle.std.proofs.Common.{refl}
use Rattle.leader_offers.proofs.Gives.{offer_added, offer_stopped, offer_full}
use Rattle.leader_offers.proofs.offers.lay_within.Goals as goal

pub returns-in-Err-clause-err : goal.returns-in-Err-clause-err
returns-in-Err-clause-err c = c.in-Err.ensures.err

pub returns-in-Err-clause-refused : goal.returns-in-Err-clause-refused
returns-in-Err-clause-refused c = offer_stopped c.args.limits.now c.args.leader.now c.args.name.now c.args.greatest c.args.items.now c.args.now c.in-Err.stop c.stop_fault.result c.requires.greatest c.requires.whole c.requires.names c.requires.taken c.in-Err.ensures.stopped c.stop_fault.ensures

pub returns-in-Err-check_room-clause-err : goal.returns-in-Err-check_room-clause-err
returns-in-Err-check_room-clause-err c = (_, c.in-Ok.ensures.put.0)

pub returns-in-Err-check_room-clause-refused : goal.returns-in-Err-check_room-clause-refused
returns-in-Err-check_room-clause-refused c = offer_full c.args.limits.now c.args.leader.now c.lay.new.leader c.args.name.now c.args.greatest c.args.items.now c.args.now c.in-Err-check_room.fault c.requires.greatest c.requires.whole c.requires.names c.requires.taken c.in-Ok.ensures.put c.in-Err-check_room.ensures.full

pub returns-in-Ok-check_room-clause-ok : goal.returns-in-Ok-check_room-clause-ok
returns-in-Ok-check_room-clause-ok c = offer_added c.args.limits.now c.args.leader.now c.lay.new.leader c.args.name.now c.args.greatest c.args.items.now c.args.now c.in-Ok.accepted _ c.requires.greatest c.requires.whole c.requires.names c.in-Ok.ensures.put c.in-Ok.ensures.count c.in-Ok-check_room.ensures.bytes c.in-Ok-check_room.ensures.queue c.end.ensures refl c.in-Ok.ensures.fits
