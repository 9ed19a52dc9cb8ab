use Rattle.std.proofs.Common.{ap}
use Rattle.chunk_format.specs.declared.chunk.Header.{Header}
use Rattle.cluster_core.proofs.Parting.{agree_one, agree_other, agree_parts, diverge}
use Rattle.cluster_core.proofs.agree.diverged_at.Goals as goal

pub returns-then-one-at-clause-none : goal.returns-then-one-at-clause-none
returns-then-one-at-clause-none c = λ e. agree_one c.args.one.now c.args.other.now c.common-at.result c.common-at.ensures.front c.if-one-at.true

pub returns-then-other-at-clause-none : goal.returns-then-other-at-clause-none
returns-then-other-at-clause-none c = λ e. agree_other c.args.one.now c.args.other.now c.common-at.result c.common-at.ensures.front c.if-other-at.true

pub returns-then-not-shares_epoch-clause-none : goal.returns-then-not-shares_epoch-clause-none
returns-then-not-shares_epoch-clause-none c = λ e. agree_parts c.args.one.now c.args.other.now c.common-at.result c.common-at.ensures.front c.if-one-at.false c.if-other-at.false (c.shares_epoch.ensures.none c.if-not-shares_epoch.true)

pub returns-clause-some : goal.returns-clause-some
returns-clause-some c =
    diverge c.args.one.now c.args.other.now c.common-at.result c.header.result.now.first c.index-one-at.result c.requires.one_log c.common-at.ensures.front c.if-one-at.false c.if-other-at.false c.common-at.ensures.differ
    (c.shares_epoch.ensures.shares c.if-not-shares_epoch.false) c.index-one-at.is (ap (λ (h : Header). h.first) c.header.ensures.header)
