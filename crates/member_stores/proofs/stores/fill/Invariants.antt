use Rattle.std.proofs.Common.{◌≡◌, ◌≤◌, ◌+◌, ◌-◌, ℕ, vec_len, vec_capacity}
use Rattle.member_stores.specs.Shelves.{shelf_of}
use Rattle.member_stores.proofs.stores.fill.Given as goal

abbrev pub invariant-room : goal.invariant-room
invariant-room l = record {
  same : (member : ℕ) → shelf_of member l.shelves.items ≡ shelf_of member l.fn.shelves.items;
  room : l.place + 1 ≤ vec_capacity l.shelves;
}

abbrev pub decreases-room : goal.decreases-room
decreases-room l = l.place + 1 - vec_len l.shelves
