use Rattle.std.proofs.Common.{refl, sym, ap}
use Rattle.chunk_format.specs.declared.chunk.Header.{Header}
use Rattle.stream_cluster.proofs.Opening.{told, breaks_before, breaks_there}
use Rattle.stream_cluster.proofs.whole.breaks_at.Goals as goal

pub returns-in-Some-broken_at : goal.returns-in-Some-broken_at
returns-in-Some-broken_at c =
    let t = told c.in_ok-place.field-0 c.in-Some.place c.args.chunks.now c.in_ok-place.ensures c.in-Some.is in
    breaks_before c.args.chunks.now c.args.promise c.in-Some.place c.in-Some-broken_at.offset t.1 c.in-Some-broken_at.ensures.some

pub returns : goal.returns
returns c =
    let t = told c.in_ok-place.field-0 c.in-Some.place c.args.chunks.now c.in_ok-place.ensures c.in-Some.is in
    let n = c.in_default-broken_at.ensures.none refl in
    breaks_there c.args.chunks.now c.args.promise c.in-Some.place c.header.result.now.first c.index-chunks-place.result t.0 c.index-chunks-place.is n.0 n.1 t.1 t.2 (sym (ap (λ (h : Header). h.first) c.header.ensures.header))
