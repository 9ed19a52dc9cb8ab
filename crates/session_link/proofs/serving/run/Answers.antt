use Rattle.std.proofs.Common.{[], ◌∷◌, ◌++◌, ◌∙◌, arith}
use Rattle.session_link.specs.Turns.{served}
use Rattle.session_link.proofs.Runs.{turns_more}
use Rattle.session_link.proofs.serving.run.Goals as goal

pub turns-preserved : goal.turns-preserved
turns-preserved g c =
    let told = c.in-None-turn.ensures in
    let read = told.read.later in
    let faults = c.turns.invariant.5 in
    let room = c.turns.invariant.6 in
    let same = told.room in (
      tt,
      tt,
      (c.turns.invariant.2.0 ++ served c.turn.new.session c.turn.new.hub (g.L.Link.heard c.turn.new.link) (g.L.Link.sent c.turn.new.link) (g.C.Clock.moments c.turn.new.clock) ∷ [], turns_more g.H.Hub.meaning _ _ _ c.turns.invariant.2.0 c.turns.invariant.2.1 told.turn),
      g.met.H.Hub.laws.seen.joins _ _ _ c.turns.invariant.3 told.later,
      told.ended ∙ c.turns.invariant.4,
      omega (arith, read, faults),
      omega (arith, room, same),
    )

pub returns-in-Some-turn-clause-runs : goal.returns-in-Some-turn-clause-runs
returns-in-Some-turn-clause-runs g c = record {
  each = c.turns.invariant.2.0;
  last = served c.turns.session c.turns.hub (g.L.Link.heard c.turns.link) (g.L.Link.sent c.turns.link) (g.C.Clock.moments c.turns.clock);
  turns = c.turns.invariant.2.1;
  ends = c.in-Some-turn.ensures.turn;
}
