use Rattle.stream_passes.proofs.Waiting.{first_past}
use Rattle.stream_passes.proofs.queue.next_reached.Goals as goal

pub returns-then-first-end : goal.returns-then-first-end
returns-then-first-end c = first_past c.args.end c.args.waiting.now.items c.in-Some.first.now c.requires c.in-Some.ensures.lookup c.if-first-end.true
