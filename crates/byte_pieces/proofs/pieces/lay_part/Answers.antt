use Rattle.std.proofs.Common.{◌≡◌, ◌+◌, ◌-◌, ℕ, List, ◌++◌, take, drop, sym, ap, ◌∙◌, arith}
use Rattle.std.proofs.lemmas.Grind.{common_steps}
use borrow.Rule.Slice.PartMut.{put_mid}
use Rattle.byte_pieces.proofs.Laying.{lay_past, lay_mid}
use Rattle.byte_pieces.proofs.Parts.{put_flat}
use Rattle.byte_pieces.proofs.pieces.lay_part.Goals as goal

pub returns-then-skip-piece-clause-laid : goal.returns-then-skip-piece-clause-laid
returns-then-skip-piece-clause-laid c = sym (lay_past c.args.piece.now c.args.skip c.args.bytes.now c.if-skip-piece.true)

pub returns-clause-laid : goal.returns-clause-laid
returns-clause-laid c =
    let count = c.min-count.result in
    let xs = c.args.piece.now in
    let e : c.args.skip + count - c.args.skip ≡ count = omega arith in
    let put : c.copy_from_slice.new.self ≡ take count c.args.bytes.now = grind (arith, common_steps) in
    ap (λ (k : ℕ). put_mid c.args.skip k xs c.copy_from_slice.new.self) e
    ∙ put_flat c.args.skip count xs c.copy_from_slice.new.self
    ∙ ap (λ (l : List ℕ). take c.args.skip xs ++ (l ++ drop (c.args.skip + count) xs)) put
    ∙ sym (lay_mid xs c.args.skip c.args.bytes.now count (omega arith) (omega arith))
