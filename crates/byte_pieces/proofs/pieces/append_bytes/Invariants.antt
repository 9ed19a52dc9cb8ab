use Rattle.std.proofs.Common.{◌≡◌, ◌≤◌, ◌-◌, ◌++◌, length, take}
use Rattle.byte_pieces.specs.Joined.{all_bytes, InPieces}
use Rattle.byte_pieces.proofs.pieces.append_bytes.Given as goal

abbrev pub invariant-loop-done : goal.invariant-loop-done
invariant-loop-done l = (l.done ≤ length l.bytes) × (all_bytes l.full.items l.last.items ≡ all_bytes l.fn.full.items l.fn.last.items ++ take l.done l.bytes) × (InPieces l.fn.full.items l.fn.last.items → InPieces l.full.items l.last.items)

abbrev pub decreases-loop-done : goal.decreases-loop-done
decreases-loop-done l = length l.bytes - l.done
