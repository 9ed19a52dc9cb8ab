use Rattle.std.proofs.Common.{arith}
use Rattle.session_link.proofs.sending.put_first.Goals as goal

pub returns-then-bytes-le-MOST_JOINED-clause-cause : goal.returns-then-bytes-le-MOST_JOINED-clause-cause
returns-then-bytes-le-MOST_JOINED-clause-cause g c = record { later = omega arith; failed = λ e. absurd (c.join.ensures.unfailed e) }
