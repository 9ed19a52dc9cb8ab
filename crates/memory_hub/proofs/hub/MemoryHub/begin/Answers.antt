use Rattle.std.proofs.Common.{arith}
use Rattle.std.proofs.lemmas.List.{with_items_is}
use Rattle.memory_hub.specs.Hubs.{hub_of}
use Rattle.memory_hub.proofs.Does.{begun_so, begun_holds, begun_later, begun_none, begun_live}
use Rattle.memory_hub.proofs.hub.MemoryHub.begin.Goals as goal

pub invariant_of-self : goal.invariant_of-self
invariant_of-self c =
    let same = with_items_is c.self.inside.streams c.begin_in.new.streams (omega (arith, c.begin_in.auto.streams, c.as_mut_slice.ensures.len)) in
    (begun_holds c.begin_in.result c.args.stream (hub_of c.self.inside.listed c.self.inside.limit c.self.inside.streams.items c.self.inside.groups c.self.inside.faults c.self.inside.fails.items c.self.inside.changes) _ _ _ c.as_mut_slice.ensures.value same c.begin_in.ensures.begun c.begin_in.ensures.none c.self.invariant.0, c.self.invariant.1)

pub returns-clause-begun : goal.returns-clause-begun
returns-clause-begun c =
    let same = with_items_is c.self.inside.streams c.begin_in.new.streams (omega (arith, c.begin_in.auto.streams, c.as_mut_slice.ensures.len)) in
    begun_so c.begin_in.result c.args.stream (hub_of c.self.inside.listed c.self.inside.limit c.self.inside.streams.items c.self.inside.groups c.self.inside.faults c.self.inside.fails.items c.self.inside.changes) c.args.self.now _ _ _ c.self.view_is c.as_mut_slice.ensures.value same c.begin_in.ensures.begun

pub returns-clause-live : goal.returns-clause-live
returns-clause-live c = begun_live c.begin_in.result c.args.stream (hub_of c.self.inside.listed c.self.inside.limit c.self.inside.streams.items c.self.inside.groups c.self.inside.faults c.self.inside.fails.items c.self.inside.changes) c.args.self.now _ c.self.view_is c.is_live.ensures (grind (arith, c.if-not-is_live.false))

pub returns-clause-later : goal.returns-clause-later
returns-clause-later c = begun_later c.begin_in.result c.args.stream (hub_of c.self.inside.listed c.self.inside.limit c.self.inside.streams.items c.self.inside.groups c.self.inside.faults c.self.inside.fails.items c.self.inside.changes) c.args.self.now _ c.self.view_is c.as_mut_slice.ensures.value c.begin_in.ensures.later

pub returns-clause-none : goal.returns-clause-none
returns-clause-none c =
    let same = with_items_is c.self.inside.streams c.begin_in.new.streams (omega (arith, c.begin_in.auto.streams, c.as_mut_slice.ensures.len)) in
    begun_none c.begin_in.result (hub_of c.self.inside.listed c.self.inside.limit c.self.inside.streams.items c.self.inside.groups c.self.inside.faults c.self.inside.fails.items c.self.inside.changes) c.args.self.now _ _ _ c.self.view_is c.as_mut_slice.ensures.value same c.begin_in.ensures.none
