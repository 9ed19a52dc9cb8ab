use Rattle.std.proofs.Common.{deque_len}
use Rattle.session_core.proofs.Leading.{Telling}
use Rattle.session_core.proofs.confirming.tell_all.Given as goal

abbrev pub invariant-confirms : goal.invariant-confirms
invariant-confirms l = Telling l.publishers l.fn.out l.fn.confirms l.out l.left.items

abbrev pub decreases-confirms : goal.decreases-confirms
decreases-confirms l = deque_len l.left
