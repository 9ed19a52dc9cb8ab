use Rattle.std.proofs.Common.{◌≡◌, length, take}
use Rattle.byte_pieces.specs.Joined.{joined, all_bytes, InPieces}
use Rattle.byte_pieces.proofs.pieces.cut_bytes.Given as goal

abbrev pub invariant-loop-before : goal.invariant-loop-before
invariant-loop-before l = (l.before ≡ length (joined l.full.items)) × (take l.size (all_bytes l.full.items l.last.items) ≡ take l.size (all_bytes l.fn.full.items l.fn.last.items)) × (InPieces l.fn.full.items l.fn.last.items → InPieces l.full.items l.last.items)

abbrev pub decreases-loop-before : goal.decreases-loop-before
decreases-loop-before l = length l.full.items
