use Rattle.stream_catalog.specs.Rules.{deletes_super}
use Rattle.hub_terms.specs.Tables.{HubTable}
use Rattle.memory_hub.specs.Hubs.{hub_of}
use Rattle.memory_hub.proofs.Does.{asked_here}
use Rattle.memory_hub.proofs.hub.MemoryHub.super_to_go.Goals as goal

pub returns : goal.returns
returns c = asked_here (λ (t : HubTable). deletes_super c.args.name.now) (hub_of c.self.inside.listed c.self.inside.limit c.self.inside.streams.items c.self.inside.groups c.self.inside.faults c.self.inside.fails.items c.self.inside.changes) c.args.self.now _ c.self.view_is c.ask_delete_super.ensures.asks
