use Rattle.std.proofs.Common.{sym, ◌∙◌}
use Rattle.memory_hub.proofs.Standing.{live_as}
use Rattle.memory_hub.proofs.streams.is_live.Goals as goal

pub returns : goal.returns
returns c = c.is_live.ensures ∙ sym (live_as c.args.listed.now c.args.number)
