use Rattle.std.proofs.Common.{ap, length, arith}
use Rattle.osiris_audit.proofs.Growing.{passes_none, passes_skip, passes_more, passes_broken}
use Rattle.osiris_audit.proofs.window.Window.drain.Goals as goal

pub pieces-init : goal.pieces-init
pieces-init g c = record { far = passes_skip _ _ _ c.args.self.now c.args.self.now c.skip.new.self (omega (arith, ap length c.rest.ensures)) c.skip.ensures (passes_none _ _ c.place-within.ensures.most); later = omega arith }

pub pieces-preserved : goal.pieces-preserved
pieces-preserved g c =
    let later = c.pieces.invariant.later in
    let more = c.in-Ok-true.ensures.cause.later in
    record {
      far = passes_skip _ _ _ c.args.self.now c.fill.new.self c.skip-in-Ok-true.new.self (omega (arith, ap length c.rest-in-Ok-true.ensures)) c.skip-in-Ok-true.ensures (passes_more _ _ _ _ _ c.args.self.now c.pieces.self c.fill.new.self c.pieces.invariant.far c.in-Ok-true.ensures.grew);
      later = omega arith;
    }

pub returns-in-Err-clause-drained : goal.returns-in-Err-clause-drained
returns-in-Err-clause-drained g c = passes_broken c.in-Err.fault _ _ _ _ c.args.self.now c.pieces.self c.fill.new.self c.pieces.invariant.far c.in-Err.ensures.grew
