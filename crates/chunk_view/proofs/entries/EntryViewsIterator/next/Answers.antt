use Rattle.std.proofs.Common.{refl, sym, ap, ◌∙◌, length, arith}
use Rattle.chunk_view.specs.Shown.{shown_by}
use Rattle.chunk_view.proofs.LeftLaws.{first_left, stepped}
use Rattle.chunk_view.proofs.entries.EntryViewsIterator.next.Goals as goal

pub first_view-view-requires : goal.first_view-view-requires
first_view-view-requires c = (first_left c.self.inside.left c.self.inside.first c.self.inside.bytes.now (omega arith) c.self.invariant).begins

pub overflow_add-self : goal.overflow_add-self
overflow_add-self c =
    let inside = c.self.inside in
    let view = c.first_view-view.result in
    let step = stepped inside.left inside.first c.from.result (length view.spelling.now) inside.bytes.now _ (shown_by view) (omega arith) c.self.invariant c.first_view-view.ensures c.from.ensures refl refl in
    omega (arith, step.fits)

pub invariant_of-self : goal.invariant_of-self
invariant_of-self c =
    let inside = c.self.inside in
    let view = c.first_view-view.result in
    (stepped inside.left inside.first c.from.result (length view.spelling.now) inside.bytes.now _ (shown_by view) (omega arith) c.self.invariant c.first_view-view.ensures c.from.ensures refl refl).others

pub returns-clause-steps : goal.returns-clause-steps
returns-clause-steps c =
    let inside = c.self.inside in
    let view = c.first_view-view.result in
    sym c.self.view_is
    ∙ (stepped inside.left inside.first c.from.result (length view.spelling.now) inside.bytes.now _ (shown_by view) (omega arith) c.self.invariant c.first_view-view.ensures c.from.ensures refl refl).cons

pub returns-clause-goes : goal.returns-clause-goes
returns-clause-goes c =
    let less = ap length (returns-clause-steps c) in
    record { on = λ _. (tt, tt, omega (arith, less)); keeps = tt; rests = λ _. tt }
