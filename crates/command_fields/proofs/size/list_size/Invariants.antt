use Rattle.std.proofs.Common.{◌≡◌, ◌+◌, ◌≤◌, length, take}
use Rattle.std.specs.List.{flat_map, AllByRecursion}
use Rattle.command_fields.proofs.size.list_size.Given as goal

abbrev pub invariant-loop-item : goal.invariant-loop-item
invariant-loop-item g l =
    AllByRecursion g.T.Item.format.Fits (take l.item-index l.items)
    × (l.total ≡ 4 + length (flat_map g.T.Item.format.spell (take l.item-index l.items)))
    × (l.total ≤ 4294967295)
