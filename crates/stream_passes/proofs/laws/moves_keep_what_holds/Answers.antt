use Rattle.stream_passes.proofs.Moving.{moved}
use Rattle.stream_passes.proofs.laws.moves_keep_what_holds.Goals as goal

pub returns : goal.returns
returns c = moved
