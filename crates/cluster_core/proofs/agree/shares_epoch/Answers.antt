use Rattle.std.proofs.Common.{sym, ap, ◌∙◌, arith}
use Rattle.chunk_format.specs.declared.chunk.Header.{Header}
use Rattle.cluster_core.proofs.Parting.{share_here, share_back, pass_one, pass_other}
use Rattle.cluster_core.proofs.agree.shares_epoch.Goals as goal

pub returns-then-epoch-other_epoch-clause-shares : goal.returns-then-epoch-other_epoch-clause-shares
returns-then-epoch-other_epoch-clause-shares c =
    let a = c.args in
    let i = c.both.place in
    let j = c.both.other_place in
    let epoch = sym (ap (λ (h : Header). h.epoch) c.header.ensures.header) ∙ c.if-epoch-other_epoch.true ∙ ap (λ (h : Header). h.epoch) c.header-in-both.ensures.header in
    λ e. share_back a.one.now a.other.now a.at i j c.both.invariant (share_here a.one.now a.other.now i j c.index-one-place.result c.index-other-other_place.result c.both-test.true c.if-other-other_place.false c.index-one-place.is c.index-other-other_place.is epoch)

pub both-preserved-then-epoch-other_epoch-2 : goal.both-preserved-then-epoch-other_epoch-2
both-preserved-then-epoch-other_epoch-2 c =
    let a = c.args in
    let here = ap (λ (h : Header). h.epoch) c.header.ensures.header in
    let there = ap (λ (h : Header). h.epoch) c.header-in-both.ensures.header in
    let less = c.if-epoch-other_epoch-2.true in
    pass_one a.one.now a.other.now a.at c.both.place c.both.other_place c.index-one-place.result c.index-other-other_place.result c.both.invariant c.requires.other_log c.both-test.true c.if-other-other_place.false c.index-one-place.is c.index-other-other_place.is
    (omega (arith, here, there, less))

pub both-preserved : goal.both-preserved
both-preserved c =
    let a = c.args in
    let here = ap (λ (h : Header). h.epoch) c.header.ensures.header in
    let there = ap (λ (h : Header). h.epoch) c.header-in-both.ensures.header in
    let le = c.if-epoch-other_epoch-2.false in
    let ne = c.if-epoch-other_epoch.false in
    pass_other a.one.now a.other.now a.at c.both.place c.both.other_place c.index-one-place.result c.index-other-other_place.result c.both.invariant c.requires.one_log c.both-test.true c.if-other-other_place.false c.index-one-place.is c.index-other-other_place.is
    (omega (arith, here, there, le, ne))
