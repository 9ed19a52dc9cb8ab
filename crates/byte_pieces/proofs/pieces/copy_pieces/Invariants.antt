use Rattle.std.proofs.Common.{◌≡◌, take}
use Rattle.byte_pieces.specs.Joined.{joined}
use Rattle.byte_pieces.proofs.pieces.copy_pieces.Given as goal

abbrev pub invariant-loop-piece : goal.invariant-loop-piece
invariant-loop-piece l = l.copied ≡ joined (take l.piece-index l.pieces)
