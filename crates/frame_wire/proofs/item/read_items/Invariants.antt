use Rattle.std.proofs.Common.{◌≡◌, ◌-◌}
use Rattle.frame_wire.specs.Joins.{items_at}
use Rattle.frame_wire.proofs.Loop.{with_front}
use Rattle.frame_wire.proofs.item.read_items.Given as goal

abbrev pub invariant-loop : goal.invariant-loop
invariant-loop g l = with_front l.items (items_at g.T.Item.format.read (l.count - l.counter) l.scan) ≡ items_at g.T.Item.format.read l.count l.fn.scan
