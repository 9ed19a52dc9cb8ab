use Rattle.std.proofs.Common.{◌≡◌, ◌++◌, List, ℕ, subst, ap, ◌∙◌}
use Rattle.frame_commands.proofs.Readings.{NoneOf}
use Rattle.frame_commands.proofs.given.read_commands.Goals as goal

pub returns-clause-none : goal.returns-clause-none
returns-clause-none c = λ none.
    let whole : c.as_slice.result.now ≡ c.args.held.now ++ c.args.piece.now = c.as_slice.ensures ∙ c.in_ok-push_slice.ensures.ok ∙ ap (λ (held : List ℕ). held ++ c.args.piece.now) c.in_ok-bytes.ensures in
    subst (NoneOf c.args.max) whole (c.read_frames.ensures.none none)
