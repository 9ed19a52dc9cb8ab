use Rattle.std.proofs.Common.{◌≡◌, length}
use Rattle.settling_laws.specs.Settling.{due_in, next_letter}
use Rattle.cluster_core.specs.Parts.{lettered}
use Rattle.stream_settle.proofs.next.next_letter.Given as goal

-- none of the messages so far is due
abbrev pub invariant-letters : goal.invariant-letters
invariant-letters l = next_letter l.cluster.state.cluster ≡ due_in l.cluster.state.cluster (lettered l.left)

abbrev pub decreases-letters : goal.decreases-letters
decreases-letters l = length l.left
