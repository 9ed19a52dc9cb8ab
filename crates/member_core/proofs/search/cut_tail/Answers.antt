use Rattle.std.proofs.Common.{ℕ, ◌∙◌, ap, sym, take}
use Rattle.epoch_coordinator.specs.Tails.{tail_of}
use Rattle.member_core.proofs.EndLaws.{cut_is}
use Rattle.member_core.proofs.search.cut_tail.Goals as goal

pub returns : goal.returns
returns c =
    let log = c.args.log.now in
    c.tail_of.ensures ∙ ap (λ (k : ℕ). tail_of (take k log)) c.ended-kept.ensures.is ∙ ap tail_of (sym (cut_is c.args.end log c.requires))
