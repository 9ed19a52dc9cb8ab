use Rattle.std.proofs.Common.{◌<◌, length, sym, ◌∙◌, arith}
use Rattle.member_stores.specs.declared.shelf.Shelf.{Shelf}
use Rattle.member_stores.specs.Shelves.{shelf_of}
use Rattle.member_stores.specs.Works.{JobStands}
use Rattle.member_stores.proofs.Placing.{at_place, own}
use Rattle.member_stores.proofs.Working.{on_new}
use Rattle.member_stores.proofs.stores.Stores.perform.Goals as goal

pub returns-clause-left : goal.returns-clause-left
returns-clause-left g c = λ told on chunks todo suits backed.
    let at = at_place c.args.member c.len.result _ c.self.inside.shelves.items c.args.self.now c.index_mut.result.now (sym c.self.view_is) c.if-place-len.false c.len.ensures c.self.inside.shelves.ok.0 c.index_mut.ensures.value in
    c.perform_on.ensures.left told on chunks (record { there = sym at ∙ todo.there; undone = todo.undone }) suits backed

pub returns-clause-stands : goal.returns-clause-stands
returns-clause-stands g c = λ told on chunks todo backed.
    let at = at_place c.args.member c.len.result _ c.self.inside.shelves.items c.args.self.now c.index_mut.result.now (sym c.self.view_is) c.if-place-len.false c.len.ensures c.self.inside.shelves.ok.0 c.index_mut.ensures.value in
    let lt : c.args.member < length c.self.inside.shelves.items = omega (arith, c.if-place-len.false, c.len.ensures, c.self.inside.shelves.ok.0) in
    on_new (λ (x : Shelf). JobStands c.args.job.now on.store x.store chunks (g.D.Disk.state c.perform_on.new.disk)) c.perform_on.result c.perform_on.new.shelf _
    (own c.args.member c.self.inside.shelves.items c.perform_on.new.shelf lt)
    (c.perform_on.ensures.stands told on chunks (record { there = sym at ∙ todo.there; undone = todo.undone }) backed)
