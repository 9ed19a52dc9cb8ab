use Rattle.std.proofs.Common.{refl, ap, length, arith}
use Rattle.osiris_audit.proofs.Growing.{grew_none, grew_then, grew_broken}
use Rattle.osiris_audit.proofs.window.Window.need.Goals as goal

pub pieces-init : goal.pieces-init
pieces-init g c = record { far = grew_none _ _ c.place-within.ensures.most; later = omega arith }

pub returns-in-Err-clause-grew : goal.returns-in-Err-clause-grew
returns-in-Err-clause-grew g c =
    let short = c.pieces-test.true in
    let len = ap length c.rest.ensures in
    grew_then 0 _ _ _ _ _ c.args.self.now c.pieces.self c.fill.new.self c.pieces.invariant.far (grew_broken c.in-Err.fault _ _ _ _ c.pieces.self c.fill.new.self c.fill.new.self (omega (arith, short, len)) refl c.in-Err.ensures.grew)
