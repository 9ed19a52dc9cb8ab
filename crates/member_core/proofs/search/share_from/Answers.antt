use Rattle.std.proofs.Common.{◌<◌, ◌∙◌, length, sym, ap, arith}
use Rattle.chunk_format.specs.declared.chunk.Header.{Header}
use Rattle.member_core.proofs.EndLaws.{from_none, from_other, from_here}
use Rattle.member_core.proofs.search.share_from.Goals as goal

pub returns-then-place-log : goal.returns-then-place-log
returns-then-place-log c = from_none c.args.offset c.ended-place.result c.args.log.now c.requires c.ended-place.ensures.is c.if-place-log.true

pub returns-then-header-offset : goal.returns-then-header-offset
returns-then-header-offset c =
    let within : c.ended-place.result < length c.args.log.now = omega (arith, c.ended-place.ensures.within, c.if-place-log.false) in
    from_other c.args.offset c.ended-place.result c.args.log.now c.index-log-place.result c.requires c.ended-place.ensures.is within c.index-log-place.is (λ is. c.if-header-offset.true (ap (λ (h : Header). h.first) c.header.ensures.header ∙ is))

pub returns : goal.returns
returns c =
    let within : c.ended-place.result < length c.args.log.now = omega (arith, c.ended-place.ensures.within, c.if-place-log.false) in
    from_here c.args.offset c.ended-place.result c.args.log.now c.index-log-place.result c.in_ok-shared.shared c.requires c.ended-place.ensures.is within c.index-log-place.is
    (sym (ap (λ (h : Header). h.first) c.header.ensures.header) ∙ c.if-header-offset.false) c.in_ok-shared.ensures
