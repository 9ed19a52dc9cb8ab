use Rattle.std.proofs.Common.{◌≡◌, ◌≤◌, deque_len}
use Rattle.session_link.proofs.Sendings.{Putting}
use Rattle.session_link.proofs.sending.put_said.Given as goal

abbrev pub invariant-said : goal.invariant-said
invariant-said g l =
    Putting (g.L.Link.sent l.fn.link) l.fn.joined l.fn.said (g.L.Link.sent l.link) l.joined l.left.items
    × (g.L.Link.heard l.link ≡ g.L.Link.heard l.fn.link) × (g.L.Link.has_ended l.link ≡ g.L.Link.has_ended l.fn.link)
    × (g.L.Link.faults l.fn.link ≤ g.L.Link.faults l.link)

abbrev pub decreases-said : goal.decreases-said
decreases-said g l = deque_len l.left
