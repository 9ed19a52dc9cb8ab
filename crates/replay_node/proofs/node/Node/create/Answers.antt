use Rattle.std.proofs.Common.{◌∙◌, ◌∷◌, [], List, All, sym, subst}
use Rattle.std.proofs.lemmas.List.Elements.{All-from_recursion}
use Rattle.chunk_format.specs.declared.chunk.Chunk.{Chunk}
use Rattle.chunk_format.specs.Chunks.{IsChunk}
use Rattle.replay_node.specs.NodeState.{opening}
use Rattle.replay_node.proofs.Laying.{opening_is_chunk}
use Rattle.replay_node.proofs.node.Node.create.Goals as goal

pub commit_lines-requires : goal.commit_lines-requires
commit_lines-requires c =
    subst (λ (l : List Chunk). All IsChunk l) (sym (c.as_slice.ensures.value ∙ c.in-Ok.ensures.chunks)) (All-from_recursion IsChunk (opening ∷ []) (opening_is_chunk, tt))
