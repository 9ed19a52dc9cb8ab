use Rattle.std.proofs.Common.{ℕ, length, ap, arith}
use Rattle.byte_pieces.proofs.Full.{piece_count}
use Rattle.byte_pieces.proofs.pieces.Pieces.pieces.Goals as goal

pub returns-clause-full : goal.returns-clause-full
returns-clause-full c =
    let counts = piece_count c.self.inside.full.items c.self.inside.last.items c.self.invariant.2 in
    let ok = c.self.inside.full.ok in
    omega (arith, counts.0, c.len.ensures, ok, ap (length {A = ℕ}) c.self.view_is)

pub returns-clause-enough : goal.returns-clause-enough
returns-clause-enough c =
    let counts = piece_count c.self.inside.full.items c.self.inside.last.items c.self.invariant.2 in
    let ok = c.self.inside.full.ok in
    omega (arith, counts.1, c.len.ensures, ok, ap (length {A = ℕ}) c.self.view_is)
