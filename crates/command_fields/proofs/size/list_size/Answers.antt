use Rattle.std.proofs.Common.{arith}
use Rattle.command_fields.proofs.SizeLaws.{no_item, too_long, all_items}
use Rattle.command_fields.proofs.size.list_size.Goals as goal

pub returns-in_default : goal.returns-in_default
returns-in_default g c = rw (← c.as_slice-items.ensures) (no_item g.T.Item.format c.as_slice-items.result.now c.loop-item.item-index c.loop-item.total c.item-item.result c.item-item.is c.loop-item-test.true c.in_default.ensures)

pub returns-then-total-gt-GREATEST_BODY : goal.returns-then-total-gt-GREATEST_BODY
returns-then-total-gt-GREATEST_BODY g c =
    rw (← c.as_slice-items.ensures)
    (too_long g.T.Item.format c.as_slice-items.result.now c.loop-item.item-index c.loop-item.total c.in-Some.size c.item-item.result c.item-item.is c.loop-item-test.true c.loop-item.invariant (c.in-Some.ensures) c.if-total-gt-GREATEST_BODY.true)

pub returns : goal.returns
returns g c = rw (← c.as_slice-items.ensures) (all_items g.T.Item.format c.as_slice-items.result.now c.loop-item.item-index c.loop-item.total (omega (arith, c.if-items-gt2147483647.false)) c.loop-item-test.false c.loop-item.invariant)
