use Rattle.std.proofs.Common.{◌∙◌, sym, ap, arith}
use Rattle.epoch_coordinator.specs.declared.tail.Tail.{Tail}
use Rattle.epoch_coordinator.specs.Tails.{contains}
use Rattle.member_core.proofs.EndLaws.{kept_here, kept_before}
use Rattle.member_core.proofs.search.kept_end.Goals as goal

pub chunks-preserved : goal.chunks-preserved
chunks-preserved c =
    let runs = c.args.runs.now in
    let log = c.args.log.now in
    let no' = sym (ap (contains runs) c.tail_after-tail.ensures) ∙ sym c.contains.ensures ∙ c.if-contains.false in
    let within = c.chunks.invariant.within in
    record { within = omega arith; same = sym (kept_before runs log c.chunks.place c.index-log-place.result c.chunks-test.true within c.index-log-place.is no') ∙ c.chunks.invariant.same }

pub returns-then-contains : goal.returns-then-contains
returns-then-contains c =
    let runs = c.args.runs.now in
    let log = c.args.log.now in
    let here = sym (ap (contains runs) c.tail_after-tail.ensures) ∙ sym c.contains.ensures ∙ c.if-contains.true in
    ap (λ (t : Tail). t.end) c.tail_after-tail.ensures ∙ sym (kept_here runs log c.chunks.place c.index-log-place.result c.chunks-test.true c.chunks.invariant.within c.index-log-place.is here)
    ∙ c.chunks.invariant.same
