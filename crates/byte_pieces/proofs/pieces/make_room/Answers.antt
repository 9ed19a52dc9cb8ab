use Rattle.std.proofs.Common.{ℕ, Vec, ap, ◌∙◌, arith}
use Rattle.std.specs.declared.alloc.Global.{Global}
use Rattle.byte_pieces.proofs.Full.{pushed}
use Rattle.byte_pieces.proofs.pieces.make_room.Goals as goal

pub returns-clause-pieces : goal.returns-clause-pieces
returns-clause-pieces c =
    let ok = c.args.last.now.ok in
    pushed c.args.full.now.items c.push.new.self.items c.args.last.now c.replace-piece.result c.replace-piece.new.dest.items c.in_default.ensures.items c.replace-piece.ensures.value (omega (arith, c.if-len-lt-PIECE.false, c.len.ensures, ok)) (ap (λ (v : Vec ℕ Global). v.items) c.replace-piece.ensures.after ∙ c.new.ensures.items)
