use Rattle.std.proofs.lemmas.Result.{err_from_is_err_and}
use Rattle.frame_wire.specs.Joins.{items_at}
use Rattle.frame_wire.proofs.Loop.{goes_on, ends, is_done}
use Rattle.frame_wire.proofs.item.read_items.Goals as goal

pub returns-in_err-item : goal.returns-in_err-item
returns-in_err-item g c =
    let p = err_from_is_err_and c.from_residual.result c.from_residual.ensures.1 in
    rw (p.1, p.2) (ends g.T.Item.format.read c.in_err-item.field-0.0 c.loop.items c.args.count c.loop.counter c.loop.scan (items_at g.T.Item.format.read c.args.count c.args.scan.now) c.loop-test.true c.in_err-item.ensures c.loop.invariant)

pub loop-preserved : goal.loop-preserved
loop-preserved g c = rw c.in-Ok.ensures.ok (goes_on g.T.Item.format.read c.loop.items c.args.count c.loop.counter c.loop.scan c.in_ok-item.item c.read.new.scan (items_at g.T.Item.format.read c.args.count c.args.scan.now) c.loop-test.true c.in_ok-item.ensures c.loop.invariant)

pub returns : goal.returns
returns g c = is_done g.T.Item.format.read c.loop.items c.args.count c.loop.counter c.loop.scan (items_at g.T.Item.format.read c.args.count c.args.scan.now) c.loop-test.false c.loop.invariant
