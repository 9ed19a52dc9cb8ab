use Rattle.std.proofs.Common.{refl, sym, arith, subst}
use Rattle.std.proofs.lemmas.List.{with_items_is}
use Rattle.hub_terms.specs.Calls.{Confirming}
use Rattle.hub_terms.specs.Tables.{HoldsFrom}
use Rattle.memory_hub.specs.Hubs.{table_of, hub_of}
use Rattle.memory_hub.proofs.Does.{lent, lent_holds}
use Rattle.memory_hub.proofs.hub.MemoryHubHub.confirms.Goals as goal

pub confirms_in-requires : goal.confirms_in-requires
confirms_in-requires c = subst (HoldsFrom 1) (sym c.as_mut_slice.ensures.value) c.self.invariant.0.views

pub invariant_of-self : goal.invariant_of-self
invariant_of-self c =
    let t = table_of c.self.inside.listed c.self.inside.limit c.self.inside.streams.items c.self.inside.groups c.self.inside.faults in
    let same = with_items_is c.self.inside.streams c.confirms_in.new.streams (omega (arith, c.confirms_in.auto.streams, c.as_mut_slice.ensures.len)) in
    (lent_holds t _ _ same (c.confirms_in.ensures t (sym c.as_mut_slice.ensures.value) c.self.invariant.0).holds, c.self.invariant.1)

pub returns : goal.returns
returns c =
    let x = hub_of c.self.inside.listed c.self.inside.limit c.self.inside.streams.items c.self.inside.groups c.self.inside.faults c.self.inside.fails.items c.self.inside.changes in
    let same = with_items_is c.self.inside.streams c.confirms_in.new.streams (omega (arith, c.confirms_in.auto.streams, c.as_mut_slice.ensures.len)) in
    lent (Confirming c.args.session) x c.args.self.now c.confirms_in.new.streams _ _ c.self.view_is same (c.confirms_in.ensures x.table (sym c.as_mut_slice.ensures.value) c.self.invariant.0) (record { fails = refl; changes = refl })
