use Rattle.member_core.proofs.EndLaws.{has_is}
use Rattle.member_core.proofs.search.has_epoch.Goals as goal

pub returns : goal.returns
returns c = has_is c.args.epoch c.args.log.now c.ends_in.result c.requires.is_log c.requires.above c.ends_in.ensures
