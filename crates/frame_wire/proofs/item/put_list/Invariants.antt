use Rattle.std.proofs.Common.{◌≡◌, ◌++◌, length, take}
use Rattle.std.specs.List.{flat_map}
use Rattle.frame_wire.specs.Fields.{count_bytes}
use Rattle.frame_wire.proofs.item.put_list.Given as goal

abbrev pub invariant-loop-item : goal.invariant-loop-item
invariant-loop-item g l = l.out ≡ l.fn.out ++ (count_bytes (length l.items) ++ flat_map g.T.Item.format.spell (take l.item-index l.items))
