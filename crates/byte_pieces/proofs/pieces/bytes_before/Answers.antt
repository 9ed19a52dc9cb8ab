use Rattle.std.proofs.Common.{arith}
use Rattle.byte_pieces.proofs.Parts.{piece_fits}
use Rattle.byte_pieces.proofs.pieces.bytes_before.Goals as goal

pub overflow_add-before : goal.overflow_add-before
overflow_add-before c = omega (arith, piece_fits c.args.full.now c.loop-piece.piece-index c.piece-item.result c.loop-piece-test.true c.piece-item.is)
