use Rattle.std.proofs.Common.{refl}
use Rattle.leader_offers.proofs.Gives.{offset_added, offset_stopped, offset_full}
use Rattle.leader_offers.proofs.store.store_within.Goals as goal

pub returns-in-Err-clause-err : goal.returns-in-Err-clause-err
returns-in-Err-clause-err c = c.in-Err.ensures.err

pub returns-in-Err-clause-refused : goal.returns-in-Err-clause-refused
returns-in-Err-clause-refused c = offset_stopped c.args.limits.now c.args.leader.now c.args.name.now c.args.offset c.args.now c.in-Err.stop c.stop_fault.result c.requires.some c.requires.few c.requires.names c.in-Err.ensures.stopped c.stop_fault.ensures

pub returns-in-Err-check_room-clause-err : goal.returns-in-Err-check_room-clause-err
returns-in-Err-check_room-clause-err c = (_, c.in-Ok.ensures.ok.0)

pub returns-in-Err-check_room-clause-refused : goal.returns-in-Err-check_room-clause-refused
returns-in-Err-check_room-clause-refused c = offset_full c.args.limits.now c.args.leader.now c.put_offset.new.leader c.args.name.now c.args.offset c.args.now c.in-Err-check_room.fault c.requires.some c.requires.few c.requires.names c.in-Ok.ensures.ok c.in-Err-check_room.ensures.full

pub returns-in-Ok-check_room-clause-ok : goal.returns-in-Ok-check_room-clause-ok
returns-in-Ok-check_room-clause-ok c = offset_added c.args.limits.now c.args.leader.now c.put_offset.new.leader c.args.name.now c.args.offset c.args.now _ c.requires.some c.requires.few c.requires.names c.in-Ok.ensures.ok c.in-Ok-check_room.ensures.bytes c.in-Ok-check_room.ensures.queue c.end.ensures refl
