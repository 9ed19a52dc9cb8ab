use Rattle.std.proofs.Common.{◌≡◌, length, take}
use Rattle.byte_pieces.specs.Joined.{joined}
use Rattle.byte_pieces.proofs.pieces.bytes_before.Given as goal

abbrev pub invariant-loop-piece : goal.invariant-loop-piece
invariant-loop-piece l = l.before ≡ length (joined (take l.piece-index l.full))
