use Rattle.std.proofs.Common.{◌≤◌, List}
use Rattle.client_program.specs.Runs.{RunStep, Steps, run_at}
use Rattle.client_program.proofs.run.run_client.Given as goal

-- the steps so far
abbrev pub invariant-loop : goal.invariant-loop
invariant-loop g l =
    (goal.iterator-loop g).can_next l.iterator' × (goal.iterator-loop g).is_finite l.iterator'
    × ((steps : List RunStep) × Steps (run_at l.fn.core l.fn.wanted (g.L.Link.heard l.fn.link) (g.L.Link.sent l.fn.link) (g.K.Sink.written l.fn.out)) steps (run_at l.core l.left (g.L.Link.heard l.link) (g.L.Link.sent l.link) (g.K.Sink.written l.out)))
    × (g.L.Link.faults l.fn.link ≤ g.L.Link.faults l.link) × (g.K.Sink.faults l.fn.out ≤ g.K.Sink.faults l.out)
