use Rattle.std.proofs.Common.{ℕ, drop, ap, ◌∙◌}
use Rattle.gated_words.proofs.Loops.{read_more}
use Rattle.gated_words.proofs.record.read_pairs.Goals as goal

pub loop-pair-preserved : goal.loop-pair-preserved
loop-pair-preserved c = read_more _ _ _ _ c.in-Some.pair _ _ c.in_ok-push.ensures.items (c.skip-rest-in-Some.ensures ∙ ap (λ (n : ℕ). drop n c.loop-pair.rest.now) c.width.ensures) c.in-Some.ensures c.loop-pair.invariant
