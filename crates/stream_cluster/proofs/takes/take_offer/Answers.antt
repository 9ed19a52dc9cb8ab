use Rattle.stream_cluster.proofs.Led.{put_last, took, took_none, still_open, still_marked, gave_back}
use Rattle.stream_cluster.proofs.takes.take_offer.Goals as goal

pub returns-in-Err : goal.returns-in-Err
returns-in-Err c = took_none c.args.limits.now c.args.end c.args.offer.given c.args.offer.items.now c.args.offer.moment c.args.leader.now c.offer.new.leader c.args.passes.now c.as_slice.result.now c.as_slice.ensures c.in-Err.fault c.in-Err.ensures.0 c.in-Err.ensures.1

pub put_wait-requires : goal.put_wait-requires
put_wait-requires c = put_last c.args.limits.now c.args.end c.args.offer.given c.args.offer.items.now c.args.offer.moment c.args.leader.now c.offer.new.leader c.args.passes.now c.as_slice.result.now c.as_slice.ensures c.in-Ok.taken c.end-from.result c.in-Ok.ensures c.requires.last

pub returns-in-Ok-put_wait : goal.returns-in-Ok-put_wait
returns-in-Ok-put_wait c = took c.args.limits.now c.args.end c.args.offer.given c.args.offer.items.now c.args.offer.moment c.args.leader.now c.offer.new.leader c.args.passes.now c.as_slice.result.now c.as_slice.ensures c.in-Ok.taken c.end-from.result c.put_wait.new.passes c.end-from.ensures c.in-Ok.ensures c.in-Ok-put_wait.ensures.ok

pub take_back-requires-clause-open : goal.take_back-requires-clause-open
take_back-requires-clause-open c = still_open c.args.limits.now c.args.end c.args.offer.given c.args.offer.items.now c.args.offer.moment c.args.leader.now c.offer.new.leader c.args.passes.now c.as_slice.result.now c.as_slice.ensures c.in-Ok.taken c.in-Ok.ensures c.requires.open

pub take_back-requires-clause-marked : goal.take_back-requires-clause-marked
take_back-requires-clause-marked c = still_marked c.args.limits.now c.args.end c.args.offer.given c.args.offer.items.now c.args.offer.moment c.args.leader.now c.offer.new.leader c.args.passes.now c.as_slice.result.now c.as_slice.ensures c.in-Ok.taken c.mark-mark.result c.in-Ok.ensures c.mark-mark.ensures.marks

pub returns-in-Err-put_wait : goal.returns-in-Err-put_wait
returns-in-Err-put_wait c = gave_back c.args.limits.now c.args.end c.args.offer.given c.args.offer.items.now c.args.offer.moment c.args.leader.now c.offer.new.leader c.args.passes.now c.as_slice.result.now c.as_slice.ensures c.in-Ok.taken c.mark-mark.result c.take_back.new.self c.put_wait.new.passes c.in-Ok.ensures c.mark-mark.ensures.back c.take_back.ensures c.in-Err-put_wait.ensures.err
