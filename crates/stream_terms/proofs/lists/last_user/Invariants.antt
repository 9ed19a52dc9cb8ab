use Rattle.std.proofs.Common.{◌≡◌, length}
use Rattle.chunk_format.specs.Logs.{last_user}
use Rattle.stream_terms.proofs.lists.last_user.Given as goal

abbrev pub invariant-chunks : goal.invariant-chunks
invariant-chunks l = last_user l.left ≡ last_user l.chunks

abbrev pub decreases-chunks : goal.decreases-chunks
decreases-chunks l = length l.left
