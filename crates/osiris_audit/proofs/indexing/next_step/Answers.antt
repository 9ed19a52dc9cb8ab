use Rattle.osiris_audit.proofs.Seeking.{nexts_broken}
use Rattle.osiris_audit.proofs.indexing.next_step.Goals as goal

pub returns-in-Err-clause-nexts : goal.returns-in-Err-clause-nexts
returns-in-Err-clause-nexts g c = nexts_broken c.in-Err.fault _ c.args.end _ _ _ c.args.window.now c.pieces.window c.fill.new.self c.fill.new.self c.pieces.invariant.far c.in-Err.ensures.grew
