use Rattle.segment_store.proofs.RecoveryLast.{headless_damaged}
use Rattle.segment_store.proofs.recover.end_headless.Goals as goal

pub returns-then-is_spoilt-clause-damaged : goal.returns-then-is_spoilt-clause-damaged
returns-then-is_spoilt-clause-damaged g c = λ told segment at is. headless_damaged c.args.stream c.args.number segment at c.args.seen.now (g.D.Disk.state c.args.disk.now) (c.requires told) (c.is_spoilt.ensures.0 c.if-is_spoilt.true) is
