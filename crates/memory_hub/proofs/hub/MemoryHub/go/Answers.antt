use Rattle.std.proofs.Common.{refl}
use Rattle.memory_hub.specs.Hubs.{hub_of}
use Rattle.memory_hub.proofs.NamesOf.{gone_last}
use Rattle.memory_hub.proofs.Does.{came_so, came_so_holds, none_come}
use Rattle.memory_hub.proofs.hub.MemoryHub.go.Goals as goal

pub invariant_of-self : goal.invariant_of-self
invariant_of-self c =
    let all = none_come c.take_names.new.listed c.self.inside.streams.items c.take_names.new.streams.items c.take_names.ensures.streams in
    (came_so_holds c.args.change 0 (hub_of c.self.inside.listed c.self.inside.limit c.self.inside.streams.items c.self.inside.groups c.self.inside.faults c.self.inside.fails.items c.self.inside.changes) c.args.self.now c.take_names.new.listed c.take_names.new.streams.items c.self.view_is c.take_names.ensures.names all c.self.invariant.0 (gone_last c.args.change c.args.self.now.table.names c.requires), c.self.invariant.1)

pub returns : goal.returns
returns c =
    let all = none_come c.take_names.new.listed c.self.inside.streams.items c.take_names.new.streams.items c.take_names.ensures.streams in
    (refl, came_so c.args.change 0 (hub_of c.self.inside.listed c.self.inside.limit c.self.inside.streams.items c.self.inside.groups c.self.inside.faults c.self.inside.fails.items c.self.inside.changes) c.args.self.now c.take_names.new.listed c.take_names.new.streams.items c.self.view_is c.take_names.ensures.names all)
