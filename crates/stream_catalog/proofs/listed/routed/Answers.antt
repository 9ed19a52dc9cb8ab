use Rattle.std.proofs.Common.{◌⊎◌, inl, inr, ◌≤◌, ◌<◌, length, arith}
use Rattle.stream_catalog.proofs.ReadLoop.{route_end, route_next, text_at}
use Rattle.stream_catalog.proofs.listed.routed.Goals.{then-parts-keys, else-parts-keys}
use Rattle.stream_catalog.proofs.listed.routed.Goals as goal

pub loop-index-preserved : goal.loop-index-preserved
loop-index-preserved c =
    let index = c.loop-index.index in
    let in_parts : index < length c.args.parts.now = elim c.if-parts-keys.branch [ then-parts-keys w ↦ omega (arith, w.count-is, w.if-parts-keys.true, c.loop-index-test.true) | else-parts-keys w ↦ omega (arith, w.count-is, w.if-parts-keys.false, c.loop-index-test.true) ] in
    let in_keys : index < length c.args.keys.now = elim c.if-parts-keys.branch [ then-parts-keys w ↦ omega (arith, w.count-is, w.if-parts-keys.true, c.loop-index-test.true) | else-parts-keys w ↦ omega (arith, w.count-is, w.if-parts-keys.false, c.loop-index-test.true) ] in
    let part = c.index-parts-index.result in
    let bound = c.index-keys-index.result in
    route_next c.args.key.now c.args.parts.now c.args.keys.now c.loop-index.row c.push_routed.new.row index part bound _
    (text_at c.args.parts.now index part in_parts c.index-parts-index.is) (text_at c.args.keys.now index bound in_keys c.index-keys-index.is) c.in_ok-push_routed.ensures c.loop-index.invariant

pub returns : goal.returns
returns c =
    let index = c.loop-index.index in
    let end : (length c.args.parts.now ≤ index) ⊎ (length c.args.keys.now ≤ index) = elim c.if-parts-keys.branch [ then-parts-keys w ↦ inl (omega (arith, w.count-is, c.loop-index-test.false)) | else-parts-keys w ↦ inr (omega (arith, w.count-is, c.loop-index-test.false)) ] in
    route_end c.args.key.now c.args.parts.now c.args.keys.now c.loop-index.row index _ end c.loop-index.invariant
