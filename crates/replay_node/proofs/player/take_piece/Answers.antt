use Rattle.std.proofs.Common.{◌∙◌, ◌≡◌, ◌++◌, List, ℕ, ap, sym, refl, arith}
use Rattle.replay_node.specs.declared.player.ReplayEnd.TheVariants.{Bad}
use Rattle.replay_node.proofs.Pieces.{line_end, so_far_none, so_far_line, so_far_stopped, so_far_end, grew_too_long, cause_since, open_none}
use Rattle.replay_node.proofs.player.take_piece.Goals as goal

pub lines-init : goal.lines-init
lines-init g c = record { so_far = so_far_none _ _ _ _; begun = c.requires.begun; room = omega arith; later = omega arith }

pub take_line-requires-clause-ends : goal.take_line-requires-clause-ends
take_line-requires-clause-ends g c = (line_end c.lines.rest.now c.split_at.result.0.now c.in-Some.k c.in-Some.ensures.0 c.in-Some.ensures.1 c.split_at.ensures.front).0

pub returns-in_default-take_line : goal.returns-in_default-take_line
returns-in_default-take_line g c =
    let split = (line_end c.lines.rest.now c.split_at.result.0.now c.in-Some.k c.in-Some.ensures.0 c.in-Some.ensures.1 c.split_at.ensures.front).1 in
    let whole : c.lines.rest.now ≡ c.split_at.result.0.now ++ c.split_at.result.1.now = split ∙ ap (λ (l : List ℕ). c.split_at.result.0.now ++ l) (sym c.split_at.ensures.back) in
    let room = c.lines.invariant.room in
    let one = c.take_line.ensures.count in
    let some = c.in-Some.ensures.0 in
    record {
      plays = so_far_stopped c.take_line.result _ _ _ _ c.lines.player.line c.lines.rest.now c.split_at.result.0.now c.split_at.result.1.now _ _ _ _ _ _ _ c.in_default-take_line.not-Done c.lines.invariant.so_far c.take_line.ensures.plays whole;
      count = omega arith;
      cause = cause_since _ _ _ _ c.lines.invariant.later c.take_line.ensures.cause;
    }

pub lines-preserved : goal.lines-preserved
lines-preserved g c =
    let split = (line_end c.lines.rest.now c.split_at.result.0.now c.in-Some.k c.in-Some.ensures.0 c.in-Some.ensures.1 c.split_at.ensures.front).1 in
    let whole : c.lines.rest.now ≡ c.split_at.result.0.now ++ c.split_at.result.1.now = split ∙ ap (λ (l : List ℕ). c.split_at.result.0.now ++ l) (sym c.split_at.ensures.back) in
    let room = c.lines.invariant.room in
    let one = c.in-Done.ensures.count in
    let some = c.split_at.ensures.back_len in
    let before = c.lines.invariant.later in
    let after = c.in-Done.ensures.cause.later in
    record {
      so_far = so_far_line _ _ _ _ c.lines.player.line c.lines.rest.now c.split_at.result.0.now c.split_at.result.1.now _ _ _ _ _ _ _ c.lines.invariant.so_far c.in-Done.ensures.plays whole;
      begun = open_none _ (c.in-Done.ensures.fresh refl);
      room = omega arith;
      later = omega arith;
    }

pub returns-then-len-gt-LONGEST_LINE-clause-plays : goal.returns-then-len-gt-LONGEST_LINE-clause-plays
returns-then-len-gt-LONGEST_LINE-clause-plays g c =
    let long = c.if-len-gt-LONGEST_LINE.true in
    let len = c.len.ensures in
    so_far_end Bad _ _ _ c.lines.player.line c.lines.rest.now _ _ _ _ _ c.lines.invariant.so_far
    (grew_too_long c.lines.player.node c.lines.player.line c.lines.rest.now c.push_slice.new.self c.lines.invariant.begun c.in_default.ensures c.in-Ok.ensures.ok (omega arith), refl)
