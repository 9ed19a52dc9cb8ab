use Rattle.std.proofs.Common.{[], List, ℕ, ap, ◌∙◌, arith}
use Rattle.frame_wire.specs.Cutting.{fed}
use Rattle.frame_wire.proofs.Cutting.{held, feeds, not_stuck}
use Rattle.frame_wire.proofs.cutter.Cutter.feed.Goals as goal

pub returns-clause-fed : goal.returns-clause-fed
returns-clause-fed c =
    λ _. c.give_up_taken.ensures ∙ ap (λ (items : List ℕ). fed (held c.self.inside.max c.self.inside.body_at c.self.inside.at items) []) c.in_ok-extend_from_slice.ensures.items
    ∙ feeds c.self.inside.bytes.items c.args.piece.now c.self.inside.at c.self.inside.body_at c.self.inside.max c.args.self.now c.self.invariant.1 c.self.view_is

pub returns-clause-stuck : goal.returns-clause-stuck
returns-clause-stuck c =
    λ stuck. absurd (not_stuck c.self.inside.bytes.items c.self.inside.at c.self.inside.body_at c.self.inside.max (omega arith) c.args.self.now c.look.result c.self.view_is (rw c.as_slice.ensures.value at c.look.ensures) c.in_default.not-TooLarge stuck)

pub returns-in_err-extend_from_slice-clause-stuck : goal.returns-in_err-extend_from_slice-clause-stuck
returns-in_err-extend_from_slice-clause-stuck c =
    λ stuck. absurd (not_stuck c.self.inside.bytes.items c.self.inside.at c.self.inside.body_at c.self.inside.max (omega arith) c.args.self.now c.look.result c.self.view_is (rw c.as_slice.ensures.value at c.look.ensures) c.in_default.not-TooLarge stuck)
