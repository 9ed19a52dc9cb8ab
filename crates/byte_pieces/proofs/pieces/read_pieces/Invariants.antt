use Rattle.byte_pieces.proofs.Parts.{ReadLoop}
use Rattle.byte_pieces.proofs.pieces.read_pieces.Given as goal

abbrev pub invariant-loop-piece : goal.invariant-loop-piece
invariant-loop-piece l = ReadLoop l.pieces l.place l.buf l.piece-index l.skip l.done
