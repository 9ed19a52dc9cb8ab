use Rattle.std.proofs.Common.{◌∙◌, ◌++◌, ◌∷◌, ◌+◌, [], ap, List, ℕ}
use Rattle.stream_catalog.specs.declared.holder.Holder.TheVariants as holds
use Rattle.stream_catalog.proofs.Fresh.{put_next, part_there}
use Rattle.stream_catalog.proofs.names.NameList.put_parts.Goals as goal

pub loop-place-preserved : goal.loop-place-preserved
loop-place-preserved c =
    let place = c.loop-place.place in
    put_next c.args.self.now c.loop-place.self c.put.new.self c.args.first place c.args.parts.now c.index-parts-place.result (part_there c.args.parts.now place c.index-parts-place.result c.loop-place-test.true c.index-parts-place.is) c.loop-place.invariant
    (c.in_ok-put.ensures.list ∙ ap (λ (name : List ℕ). c.loop-place.self.list ++ (name, holds.Part (c.args.first + place) place) ∷ []) c.named.ensures)
    c.put.ensures.last
