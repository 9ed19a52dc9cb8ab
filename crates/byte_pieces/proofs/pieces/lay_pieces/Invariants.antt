use Rattle.byte_pieces.proofs.Parts.{LayLoop}
use Rattle.byte_pieces.proofs.pieces.lay_pieces.Given as goal

abbrev pub invariant-loop-piece : goal.invariant-loop-piece
invariant-loop-piece l = LayLoop l.pieces l.initial.pieces l.place l.bytes l.piece-index l.skip l.done
