use Rattle.std.proofs.Common.{◌<◌, ◌∙◌, sym, ap, arith}
use Rattle.epoch_coordinator.specs.declared.tail.Tail.{Tail}
use Rattle.member_core.proofs.Commits.{commit_none, commit_here, commit_earlier}
use Rattle.member_core.proofs.commit.commit_over.Goals as goal

pub returns-then-count-eq0 : goal.returns-then-count-eq0
returns-then-count-eq0 c = commit_none c.args.epoch c.args.members c.args.acknowledged.now c.args.log.now c.common_count-count.result c.common_count-count.ensures.point c.if-count-eq0.true

pub returns-then-tail-epoch : goal.returns-then-tail-epoch
returns-then-tail-epoch c =
    let k = c.common_count-count.result in
    let some : 0 < k = omega (arith, c.if-count-eq0.false) in
    let epoch = sym (ap (λ (t : Tail). t.epoch) c.tail_after-tail.ensures) ∙ c.if-tail-epoch.true in
    ap (λ (t : Tail). t.end) c.tail_after-tail.ensures ∙ commit_here c.args.epoch c.args.members c.args.acknowledged.now c.args.log.now k c.index-log-count.result c.common_count-count.ensures.point some c.common_count-count.ensures.within c.index-log-count.is epoch

pub returns-else-tail-epoch : goal.returns-else-tail-epoch
returns-else-tail-epoch c =
    let k = c.common_count-count.result in
    let some : 0 < k = omega (arith, c.if-count-eq0.false) in
    commit_earlier c.args.epoch c.args.members c.args.acknowledged.now c.args.log.now k c.index-log-count.result c.common_count-count.ensures.point c.requires.is_log c.requires.last some c.common_count-count.ensures.within c.index-log-count.is
    (λ is. c.if-tail-epoch.false (ap (λ (t : Tail). t.epoch) c.tail_after-tail.ensures ∙ is))
