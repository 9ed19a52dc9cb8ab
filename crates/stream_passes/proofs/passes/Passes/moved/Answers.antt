use Rattle.std.proofs.Common.{◌≤◌, sym, subst, arith}
use Rattle.std.specs.List.{filter}
use Rattle.stream_passes.specs.Parts.{is_past, waits_on}
use Rattle.stream_passes.specs.Keeps.{OfOneEpoch}
use Rattle.stream_passes.proofs.Waiting.{one_of_filter, keeps_filter, moved_waiting, moved_parts}
use Rattle.stream_passes.proofs.passes.Passes.moved.Goals as goal

pub drop_others-requires : goal.drop_others-requires
drop_others-requires c =
    subst OfOneEpoch (sym c.take_reached.ensures.waiting) (one_of_filter (is_past c.args.end) c.self.inside.waiting.items c.self.invariant.0.one_epoch)

pub invariant_of-self : goal.invariant_of-self
invariant_of-self c =
    let s = c.self.inside in
    let left = moved_waiting c.args.end c.args.running s.waiting.items c.take_reached.new.waiting.items c.drop_others.new.waiting.items c.take_reached.ensures.waiting c.drop_others.ensures.items in
    let room = c.take_reached.ensures.room in
    let fewer = c.drop_others.ensures.fewer in
    (keeps_filter s.passes.items s.waiting.items c.drop_others.new.waiting.items (waits_on c.args.end c.args.running) c.self.invariant.0 left, omega (arith, room, fewer))

pub returns : goal.returns
returns c =
    let s = c.self.inside in
    let left = moved_waiting c.args.end c.args.running s.waiting.items c.take_reached.new.waiting.items c.drop_others.new.waiting.items c.take_reached.ensures.waiting c.drop_others.ensures.items in
    moved_parts c.args.end c.args.running s.number s.passes.items s.waiting.items c.drop_others.new.waiting.items s.ready.items c.take_reached.new.ready.items c.args.self.now c.self.view_is left c.take_reached.ensures.ready
