use Rattle.stream_catalog.specs.Rules.{creates}
use Rattle.hub_terms.specs.Tables.{HubTable}
use Rattle.memory_hub.specs.Hubs.{hub_of}
use Rattle.memory_hub.proofs.Does.{asked_here, fit_here}
use Rattle.memory_hub.proofs.hub.MemoryHub.stream_to_come.Goals as goal

pub returns-clause-asks : goal.returns-clause-asks
returns-clause-asks c = asked_here (λ (t : HubTable). creates t.limit c.args.name.now) (hub_of c.self.inside.listed c.self.inside.limit c.self.inside.streams.items c.self.inside.groups c.self.inside.faults c.self.inside.fails.items c.self.inside.changes) c.args.self.now _ c.self.view_is c.ask_create.ensures.asks

pub returns-clause-fits : goal.returns-clause-fits
returns-clause-fits c = fit_here (hub_of c.self.inside.listed c.self.inside.limit c.self.inside.streams.items c.self.inside.groups c.self.inside.faults c.self.inside.fails.items c.self.inside.changes) c.args.self.now _ c.self.view_is c.ask_create.ensures.fits
