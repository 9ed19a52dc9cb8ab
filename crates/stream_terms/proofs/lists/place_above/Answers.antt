use Rattle.std.proofs.Common.{sym, subst, map, List}
use Rattle.std.specs.List.Sorted.{IsStrictlyIncreasing}
use Rattle.chunk_format.specs.declared.chunk.Chunk.{Chunk}
use Rattle.chunk_format.specs.Chunks.{end_of_chunk}
use Rattle.stream_terms.proofs.ListLaws.{ends_increase}
use Rattle.stream_terms.proofs.lists.place_above.Goals as goal

pub find_place-requires : goal.find_place-requires
find_place-requires g c = subst (λ (l : List Chunk). IsStrictlyIncreasing (map end_of_chunk l)) (sym c.new.ensures) (ends_increase c.args.chunks.now c.requires.log)
