use Rattle.std.proofs.Common.{◌≤◌, ◌+◌, length, ap, arith}
use Rattle.stream_passes.proofs.Waiting.{took_one}
use Rattle.stream_passes.proofs.queue.take_reached.Goals as goal

pub reached-preserved : goal.reached-preserved
reached-preserved c =
    let i = c.reached.invariant in
    let ws = c.reached.waiting in
    let new = c.next_reached.new.waiting in
    let t = took_one c.args.end ws.items new.items c.reached.ready.items c.push.new.self.items c.in-Some.waits c.args.waiting.now.items c.args.ready.now.items c.in-Some.ensures.0 c.in-Some.ensures.1 c.in-Ok.ensures.items i.ends i.reached i.past in
    let before = ws.ok.0 in
    let after = new.ok.0 in
    let fewer = ap length c.in-Some.ensures.0 in
    let room = i.room in
    let len = c.in-Ok.ensures.len in
    let capacity = c.in-Ok.ensures.capacity in
    record { ends = t.ends; reached = t.reached; past = t.past; room = omega (arith, before, after, fewer, room, len, capacity) }
