use Rattle.std.proofs.Common.{None, arith}
use Rattle.std.proofs.lemmas.List.{with_items_is}
use Rattle.memory_hub.specs.Hubs.{hub_of}
use Rattle.memory_hub.proofs.Does.{run_so, run_holds}
use Rattle.memory_hub.proofs.hub.MemoryHub.stop.Goals as goal

pub invariant_of-self : goal.invariant_of-self
invariant_of-self c =
    let same = with_items_is c.self.inside.streams c.stop_in.new.streams (omega (arith, c.stop_in.auto.streams, c.as_mut_slice.ensures.len)) in
    (run_holds None c.args.stream (hub_of c.self.inside.listed c.self.inside.limit c.self.inside.streams.items c.self.inside.groups c.self.inside.faults c.self.inside.fails.items c.self.inside.changes) _ _ _ c.as_mut_slice.ensures.value c.stop_in.ensures same c.self.invariant.0, c.self.invariant.1)

pub returns : goal.returns
returns c =
    let same = with_items_is c.self.inside.streams c.stop_in.new.streams (omega (arith, c.stop_in.auto.streams, c.as_mut_slice.ensures.len)) in
    run_so None c.args.stream (hub_of c.self.inside.listed c.self.inside.limit c.self.inside.streams.items c.self.inside.groups c.self.inside.faults c.self.inside.fails.items c.self.inside.changes) c.args.self.now _ _ _ c.self.view_is c.as_mut_slice.ensures.value c.stop_in.ensures same
