use Rattle.memory_hub.specs.Hubs.{hub_of}
use Rattle.memory_hub.proofs.Does.{comes_so, comes_holds, fits_here}
use Rattle.memory_hub.proofs.hub.MemoryHub.come.Goals as goal

pub add_names-added-requires-clause-fits : goal.add_names-added-requires-clause-fits
add_names-added-requires-clause-fits c = fits_here c.args.change (hub_of c.self.inside.listed c.self.inside.limit c.self.inside.streams.items c.self.inside.groups c.self.inside.faults c.self.inside.fails.items c.self.inside.changes) c.args.self.now c.self.view_is c.requires.fits

pub invariant_of-self : goal.invariant_of-self
invariant_of-self c =
    (comes_holds c.add_names-added.result c.args.change c.args.count (hub_of c.self.inside.listed c.self.inside.limit c.self.inside.streams.items c.self.inside.groups c.self.inside.faults c.self.inside.fails.items c.self.inside.changes) c.args.self.now c.add_names-added.new.listed c.add_names-added.new.streams.items c.self.view_is c.add_names-added.ensures.names c.add_names-added.ensures.streams c.add_names-added.ensures.same_names c.add_names-added.ensures.same_streams c.self.invariant.0 c.requires.last, c.self.invariant.1)

pub returns : goal.returns
returns c =
    comes_so c.add_names-added.result c.args.change c.args.count (hub_of c.self.inside.listed c.self.inside.limit c.self.inside.streams.items c.self.inside.groups c.self.inside.faults c.self.inside.fails.items c.self.inside.changes) c.args.self.now c.add_names-added.new.listed c.add_names-added.new.streams.items _ c.self.view_is c.add_names-added.ensures.names c.add_names-added.ensures.streams c.add_names-added.ensures.same_names c.add_names-added.ensures.same_streams c.done.ensures
