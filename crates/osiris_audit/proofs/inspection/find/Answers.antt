use Rattle.osiris_audit.proofs.Seeking.{finds_broken}
use Rattle.osiris_audit.proofs.inspection.find.Goals as goal

pub returns-in-Err-clause-finds : goal.returns-in-Err-clause-finds
returns-in-Err-clause-finds g c = finds_broken c.in-Err.fault _ c.args.end c.args.idx.now _ _ _ _ c.args.window.now c.pieces.window c.fill.new.self c.fill.new.self c.pieces.invariant.far c.in-Err.ensures.grew
