use Rattle.std.proofs.Common.{[], ◌∷◌, ◌++◌, arith}
use Rattle.client_program.proofs.RunLaws.{steps_more}
use Rattle.client_program.proofs.run.run_client.Goals as goal

pub loop-preserved : goal.loop-preserved
loop-preserved g c =
    let link = c.in-Ok.ensures.link.later in
    let out = c.in-Ok.ensures.out.later in
    let links = c.loop.invariant.3 in
    let outs = c.loop.invariant.4 in
    (tt, tt, (c.loop.invariant.2.0 ++ c.in-Ok.ensures.turns.1.0 ∷ [], steps_more _ _ _ c.loop.invariant.2.0 c.in-Ok.ensures.turns.1.0 c.loop.invariant.2.1 c.in-Ok.ensures.turns.0 c.in-Ok.ensures.turns.1.1), omega arith, omega arith)
