use Rattle.std.proofs.Common.{◌≡◌, ◌∙◌, ◌++◌, ◌∷◌, [], ap, sym, is_some, List, ℕ}
use Rattle.stream_catalog.specs.declared.holder.Holder.TheVariants as holds
use Rattle.std.specs.Map.{lookup}
use Rattle.stream_catalog.specs.Names.{Names, same_name}
use Rattle.stream_catalog.specs.Adding.{are_free}
use Rattle.stream_catalog.specs.Rules.{named, all_named}
use Rattle.stream_catalog.proofs.Fresh.{Entries, free_start, differ_next, part_there}
use Rattle.stream_catalog.proofs.names.all_differ.Goals as goal

pub loop-place-init : goal.loop-place-init
loop-place-init c =
    let one : c.put.new.self.list ≡ (named c.args.name.now, holds.Stream 0) ∷ [] =
    c.in_ok-put.ensures.list ∙ ap (λ (n : Names). n.list ++ (c.named.result.now, holds.Stream 0) ∷ []) c.new-seen.ensures ∙ ap (λ (name : List ℕ). (name, holds.Stream 0) ∷ []) c.named.ensures in
    ap (λ (l : Entries). are_free l (all_named c.args.parts.now)) one ∙ free_start (named c.args.name.now) (all_named c.args.parts.now) (holds.Stream 0)

pub loop-place-preserved : goal.loop-place-preserved
loop-place-preserved c =
    let place = c.loop-place.place in
    let part = c.index-parts-place.result in
    differ_next c.loop-place.seen.list c.put-in-loop-place.new.self.list c.args.parts.now place part (holds.Stream 0) (part_there c.args.parts.now place part c.loop-place-test.true c.index-parts-place.is)
    (ap (λ (name : List ℕ). is_some (lookup (same_name name) c.loop-place.seen.list)) (sym c.named-part.ensures) ∙ sym c.has.ensures ∙ c.if-has.false)
    (c.in_ok-put-2.ensures.list ∙ ap (λ (name : List ℕ). c.loop-place.seen.list ++ (name, holds.Stream 0) ∷ []) c.named-part.ensures)
    ∙ c.loop-place.invariant
