use Rattle.std.proofs.Common.{arith}
use Rattle.byte_pieces.proofs.Full.{cut_end, cut_step, no_pieces, popped}
use Rattle.byte_pieces.proofs.pieces.cut_bytes.Goals as goal
use Rattle.byte_pieces.proofs.pieces.cut_bytes.Goals.{else-loop-before-test, then-loop-before-test+in_default}

pub loop-before-preserved : goal.loop-before-preserved
loop-before-preserved c =
    let is = c.in-Some.ensures.items in
    let so_far = c.loop-before.invariant in
    let ok = c.in-Some.piece.ok in
    let step = cut_step c.loop-before.full.items c.pop.new.self.items c.in-Some.piece c.loop-before.last.items _ c.args.size c.loop-before.before is so_far.0 c.loop-before-test.true so_far.1 in
    (omega (arith, step.0, c.len-before.ensures, ok), step.1, λ pieces. popped _ _ c.in-Some.piece _ is (so_far.2 pieces))

pub returns-clause-cut : goal.returns-clause-cut
returns-clause-cut c = elim c.loop-before-test.branch [
  | else-loop-before-test w ↦ rw w.full-is (cut_end c.loop-before.full.items c.loop-before.last.items c.truncate.new.self.items _ c.args.size c.loop-before.before c.loop-before.invariant.0 w.loop-before-test.false c.truncate.ensures.items c.loop-before.invariant.1)
  | then-loop-before-test+in_default w ↦ absurd (no_pieces c.loop-before.full.items c.args.size c.loop-before.before c.loop-before.invariant.0 w.loop-before-test.true (let ok = c.loop-before.full.ok in let v = w.in_default.ensures.variant in grind (arith, v, ok)))
]
