use Rattle.std.proofs.Common.{Bool, ap, arith, ◌∙◌}
use Rattle.stream_catalog.specs.Rules.{creates}
use Rattle.hub_terms.specs.Tables.{HubTable}
use Rattle.memory_hub.specs.Hubs.{counted}
use Rattle.memory_hub.proofs.NamesOf.{create_comes, create_last}
use Rattle.memory_hub.proofs.Does.{fails_does, came_does, refused_does}
use Rattle.memory_hub.proofs.hub.MemoryHubHub.create.Goals as goal

pub come-requires-clause-brings : goal.come-requires-clause-brings
come-requires-clause-brings c = create_comes c.next_fails.new.self.table.limit c.args.name.now c.next_fails.new.self.table.names c.in-Ok.change c.in-Ok.ensures.asks

pub come-requires-clause-last : goal.come-requires-clause-last
come-requires-clause-last c = create_last c.next_fails.new.self.table.limit c.args.name.now c.next_fails.new.self.table.names c.in-Ok.change c.in-Ok.ensures.asks

pub returns-then-next_fails : goal.returns-then-next_fails
returns-then-next_fails c =
    let d = fails_does (creates c.args.self.now.table.limit c.args.name.now) c.args.self.now c.next_fails.new.self c.next_fails.ensures.holds c.next_fails.ensures.alone (c.next_fails.ensures.listed.0 c.if-next_fails.true) (c.next_fails.ensures.counted ∙ ap (λ (b : Bool). counted b c.args.self.now) c.if-next_fails.true) c.next_fails.ensures.later in
    record { table = record { before = d.before; holds = d.holds; step = d.step }; counts = d.counts }

pub returns-in-Ok : goal.returns-in-Ok
returns-in-Ok c =
    let d = came_does (λ (t : HubTable). creates t.limit c.args.name.now) c.args.self.now c.next_fails.new.self _ c.in-Ok.change 1 _ (c.next_fails.ensures.counted ∙ ap (λ (b : Bool). counted b c.args.self.now) c.if-next_fails.false) c.next_fails.ensures.holds c.next_fails.ensures.alone (λ h. absurd (grind (arith, c.if-next_fails.false, c.next_fails.ensures.listed.1 h))) c.in-Ok.ensures.asks (create_last c.next_fails.new.self.table.limit c.args.name.now c.next_fails.new.self.table.names c.in-Ok.change c.in-Ok.ensures.asks) c.come.ensures in
    record { table = record { before = d.before; holds = d.holds; step = d.step }; counts = d.counts }

pub returns-in-Err : goal.returns-in-Err
returns-in-Err c =
    let d = refused_does (λ (t : HubTable). creates t.limit c.args.name.now) c.args.self.now c.next_fails.new.self _ c.in-Err.fault _ (c.next_fails.ensures.counted ∙ ap (λ (b : Bool). counted b c.args.self.now) c.if-next_fails.false) c.next_fails.ensures.holds c.next_fails.ensures.alone (λ h. absurd (grind (arith, c.if-next_fails.false, c.next_fails.ensures.listed.1 h))) c.in-Err.ensures.asks c.refuse.ensures.told c.refuse.ensures.after in
    record { table = record { before = d.before; holds = d.holds; step = d.step }; counts = d.counts }
