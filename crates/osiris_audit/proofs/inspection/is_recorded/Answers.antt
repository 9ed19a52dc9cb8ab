use Rattle.std.proofs.Common.{refl, ap, subst}
use Rattle.chunk_format.specs.declared.chunk.Header.{Header}
use Rattle.segment_pairs.proofs.Walking.{recorded_front, front_recorded}
use Rattle.osiris_audit.specs.Fronts.{MayBegin}
use Rattle.osiris_audit.proofs.inspection.is_recorded.Goals as goal

pub returns : goal.returns
returns c = (
  (λ is. (
    subst (MayBegin c.args.end) (ap (λ (h : Header). h.first) c.header.ensures) (c.may_begin.ensures.0 c.if-not-may_begin.false),
    recorded_front c.args.place c.args.view.now c.args.idx.now _ _ c.record_bytes.ensures refl (c.same_bytes.ensures.0 is),
  )),
  (λ r. c.same_bytes.ensures.1 (front_recorded c.args.place c.args.view.now c.args.idx.now _ _ c.record_bytes.ensures refl r.1)),
)
