use Rattle.std.proofs.Common.{◌≡◌, refl, sym, ◌∙◌, ap, arith}
use Rattle.chunk_format.specs.declared.chunk.Header.{Header}
use Rattle.segment_pairs.proofs.Walking.{recorded_front, front_recorded}
use Rattle.segment_pairs.proofs.look.is_recorded.Goals as goal

pub returns : goal.returns
returns c =
    let same : c.header.result.now.first ≡ c.args.end = omega arith in (
      (λ is. (sym (ap (λ (h : Header). h.first) c.header.ensures.header) ∙ same, recorded_front _ _ _ _ _ c.record_bytes.ensures.bytes refl (c.same_bytes.ensures.0 is))),
      (λ r. c.same_bytes.ensures.1 (front_recorded _ _ _ _ _ c.record_bytes.ensures.bytes refl r.1)),
    )
