use Rattle.std.proofs.Common.{◌≡◌, ◌≤◌, ◌<◌, List, length}
use Rattle.session_link.specs.Turns.{Served, served, Turns}
use Rattle.session_link.proofs.serving.run.Given as goal

-- whole turns so far
abbrev pub invariant-turns : goal.invariant-turns
invariant-turns g l =
    (goal.iterator-turns g).can_next l.iterator' × (goal.iterator-turns g).is_finite l.iterator'
    × ((each : List (Served _)) × Turns g.H.Hub.meaning (served l.fn.session l.fn.hub (g.L.Link.heard l.fn.link) (g.L.Link.sent l.fn.link) (g.C.Clock.moments l.fn.clock)) each (served l.session l.hub (g.L.Link.heard l.link) (g.L.Link.sent l.link) (g.C.Clock.moments l.clock)))
    × g.H.Hub.meaning.seen.later l.fn.hub l.hub
    × (g.L.Link.has_ended l.link ≡ g.L.Link.has_ended l.fn.link)
    × (g.L.Link.faults l.fn.link ≤ g.L.Link.faults l.link)
    × (0 < length l.buf)
