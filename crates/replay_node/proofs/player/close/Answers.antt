use Rattle.std.proofs.Common.{◌∙◌, ap, take, List, ℕ}
use Rattle.outside_io.specs.Known.{after_known}
use Rattle.replay_node.proofs.Pieces.{cut_one}
use Rattle.replay_node.proofs.player.close.Goals as goal

pub returns-in-Done-clause-closes : goal.returns-in-Done-clause-closes
returns-in-Done-clause-closes g c = rw c.in-Done.is (cut_one _ _ _ c.in-Failed.ensures.gave.0 c.in-Failed.ensures.gave.1)

pub returns-in-Bad-clause-closes : goal.returns-in-Bad-clause-closes
returns-in-Bad-clause-closes g c =
    rw c.in-Bad.is (cut_one _ _ _ c.in-Failed-write_all.ensures.gave.0
    (c.in-Failed-write_all.ensures.gave.1 ∙ ap (λ (l : List ℕ). after_known (g.K.Sink.written c.args.out.now) (take c.in-Failed-write_all.ensures.gave.0 l)) (c.as_slice.ensures ∙ c.in-Ok.ensures)))
