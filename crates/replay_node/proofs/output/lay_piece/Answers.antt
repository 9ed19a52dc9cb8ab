use Rattle.std.proofs.Common.{◌∙◌, ◌∷◌, [], ◌++◌, ap, arith}
use Rattle.chunk_format.specs.declared.chunk.Chunk.{Chunk}
use Rattle.replay_node.proofs.Laying.{piece_is_chunk, entries_count}
use Rattle.replay_node.proofs.output.lay_piece.Goals as goal

pub returns : goal.returns
returns c =
    let count = entries_count c.args.items.now in
    let sum = c.in-Some.ensures in
    record {
      chunks = c.in-Ok.ensures.items ∙ ap (λ (k : Chunk). c.args.commits.now.chunks.items ++ k ∷ []) c.in_ok-chunk.ensures;
      end = let is = sum.1 in omega (arith, is, count);
      spelled = (piece_is_chunk c.args.commits.now.end c.args.items.now c.requires sum.0, tt);
    }
