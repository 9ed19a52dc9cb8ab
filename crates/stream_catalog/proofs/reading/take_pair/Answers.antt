use Rattle.std.proofs.Common.{refl, rules}
use Rattle.stream_catalog.proofs.Numbers.{added}
use Rattle.stream_catalog.proofs.reading.take_pair.Goals as goal

pub returns-clause-numbered : goal.returns-clause-numbered
returns-clause-numbered c = added c.in-Some.change c.args.names.now c.args.names.now c.apply.new.self refl c.requires (search rules) c.in_ok-apply.ensures.ok
