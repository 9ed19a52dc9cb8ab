use Rattle.std.proofs.Common.{◌∷◌, []}
use Rattle.chunk_format.proofs.LinkLaws.{end_push, epoch_push, linked_push}
use Rattle.chunk_format.proofs.NameLaws.{greatest_join, stored_join, rises_in_join}
use Rattle.chunk_format.proofs.SnapshotLaws.{items_stay_snapshot}
use Rattle.chunk_format.proofs.TruthLaws.{truthful_push}
use Rattle.chunk_format.proofs.laws.one_chunk_more.Goals as goal

pub returns : goal.returns
returns c = record {
  end = end_push;
  epoch = epoch_push;
  log = linked_push 0 0;
  greatest = λ name chunks d. greatest_join name chunks (d ∷ []);
  stored = λ name chunks d. stored_join name chunks (d ∷ []);
  rises = λ chunks d. rises_in_join chunks (d ∷ []);
  truthful = truthful_push;
  snapshot = items_stay_snapshot;
}
