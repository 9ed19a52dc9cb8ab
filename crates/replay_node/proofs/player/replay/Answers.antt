use Rattle.replay_node.specs.declared.player.ReplayEnd.TheVariants.{Memory}
use Rattle.replay_node.proofs.Closing.{closed, closed_at_once, read_cause, write_cause}
use Rattle.replay_node.proofs.Confirming.{each_confirmed}
use Rattle.replay_node.proofs.Goodness.{complete}
use Rattle.replay_node.proofs.Headline.{transcribed}
use Rattle.replay_node.proofs.player.replay.Goals as goal

pub returns-in_default-clause-replays : goal.returns-in_default-clause-replays
returns-in_default-clause-replays g c =
    let r = closed_at_once (g.S.Source.left c.args.script.now) (g.K.Sink.written c.args.out.now) in
    (Memory, c.status.ensures, r, each_confirmed r.node r.plays.lines r.plays.outputs r.plays.run)

pub returns-in_default-clause-transcript : goal.returns-in_default-clause-transcript
returns-in_default-clause-transcript g c = transcribed Memory _ _ _ _ (closed_at_once _ _)

pub returns-clause-replays : goal.returns-clause-replays
returns-clause-replays g c =
    let r = closed c.play-end.result c.close-closed.result _ _ _ _ _ _ c.play-end.ensures.plays c.close-closed.ensures.closes in
    (c.close-closed.result, c.status-2.ensures, r, each_confirmed r.node r.plays.lines r.plays.outputs r.plays.run)

pub returns-clause-transcript : goal.returns-clause-transcript
returns-clause-transcript g c = transcribed c.close-closed.result _ _ _ _ (closed c.play-end.result c.close-closed.result _ _ _ _ _ _ c.play-end.ensures.plays c.close-closed.ensures.closes)

pub returns-clause-complete : goal.returns-clause-complete
returns-clause-complete g c = λ text told short good no_read no_write.
    complete c.close-closed.result text _ _ _ _ _ _ _ _ _ c.status-2.ensures (closed c.play-end.result c.close-closed.result _ _ _ _ _ _ c.play-end.ensures.plays c.close-closed.ensures.closes)
    (read_cause c.play-end.result c.close-closed.result _ _ _ _ _ _ c.status-2.ensures c.close-closed.ensures.closes c.play-end.ensures.read)
    (write_cause c.play-end.result c.close-closed.result _ _ _ _ c.status-2.ensures c.play-end.ensures.write c.close-closed.ensures.cause) told short good no_read no_write
