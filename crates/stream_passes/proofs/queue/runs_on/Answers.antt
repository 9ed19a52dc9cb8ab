use Rattle.stream_passes.proofs.Waiting.{runs_as_first}
use Rattle.stream_passes.proofs.queue.runs_on.Goals as goal

pub returns-in-Some : goal.returns-in-Some
returns-in-Some c = runs_as_first c.args.waiting.now.items c.in-Some.first.now c.args.running c.is_of_epoch.result c.requires c.in-Some.ensures.lookup c.is_of_epoch.ensures
