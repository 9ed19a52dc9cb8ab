use Rattle.chunk_format.proofs.SnapshotLaws.{opening_right}
use Rattle.chunk_format.proofs.TruthLaws.{truthful_opens}
use Rattle.chunk_format.proofs.laws.an_opening_chunk_is_truthful.Goals as goal

pub returns : goal.returns
returns c = record { is_chunk = opening_right; truthful = truthful_opens }
