use Rattle.std.proofs.Common.{ap, ◌∙◌, arith}
use Rattle.confirmed_ids.specs.Putting.{with_id}
use Rattle.confirmed_ids.proofs.Placing.{put_confirms}
use Rattle.confirmed_ids.proofs.ids.ConfirmedIds.add.Goals as goal

-- src/ids.rt:65:13
pub returns-then-id-self-gt1-clause-added : goal.returns-then-id-self-gt1-clause-added
returns-then-id-self-gt1-clause-added c =
    let low = c.if-id-self.false in
    let far = c.if-id-self-gt1.true in
    rw (← c.self.view_is)
    (put_confirms c.self.inside.upto c.args.id c.self.inside.above.items c.in_ok-self-inside.field-0.items (omega (arith, low, far)) c.self.invariant
    (c.in_ok-self-inside.ensures ∙ ap (with_id c.args.id) c.as_slice.ensures.value))
