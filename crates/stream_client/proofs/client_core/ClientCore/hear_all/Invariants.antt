use Rattle.std.proofs.Common.{length}
use Rattle.stream_client.proofs.Hearsay.{Heard}
use Rattle.stream_client.proofs.client_core.ClientCore.hear_all.Given as goal

abbrev pub invariant-frames : goal.invariant-frames
invariant-frames l = Heard l.fn.self l.self

abbrev pub decreases-frames : goal.decreases-frames
decreases-frames l = length l.self.reader.rest
