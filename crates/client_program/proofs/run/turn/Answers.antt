use Rattle.client_program.proofs.RunLaws.{sent_at, sent_by, sends_some, sends_none, same_turn, still_going, unfinished}
use Rattle.client_program.proofs.run.turn.Goals as goal

pub returns-in-Ok-Some-clause-turns : goal.returns-in-Ok-Some-clause-turns
returns-in-Ok-Some-clause-turns g c =
    sent_at c.send.result _ _ _ _ _ _ _ _ _ (unfinished _ _ _ _ _ _ c.is_finished.ensures c.if-is_finished.false)
    (sends_some c.args.core.now c.next_frame.new.self _ _ _ c.in-Ok-Some.field-0-is c.in-Ok-Some.ensures.step.1 c.in-Ok-Some.ensures.step.2 c.in-Ok-Some.ensures.reader)
    (sent_by _ _ _ _ _ c.as_slice.ensures c.send.ensures.sent) c.send.ensures.heard

pub write_or_listen-requires : goal.write_or_listen-requires
write_or_listen-requires g c =
    still_going c.args.core.now c.next_frame.new.self _ _ _ _ (sends_none c.args.core.now c.next_frame.new.self _ _ c.in-Ok-None.field-0-is c.in-Ok-None.ensures.step.1 c.in-Ok-None.ensures.step.2 c.in-Ok-None.ensures.reader)
    (unfinished _ _ _ _ _ _ c.is_finished.ensures c.if-is_finished.false)

pub returns-in-Ok-None-clause-turns : goal.returns-in-Ok-None-clause-turns
returns-in-Ok-None-clause-turns g c =
    same_turn c.write_or_listen.result c.args.core.now c.next_frame.new.self _ _ _ _ _ _ _ _ _ (sends_none c.args.core.now c.next_frame.new.self _ _ c.in-Ok-None.field-0-is c.in-Ok-None.ensures.step.1 c.in-Ok-None.ensures.step.2 c.in-Ok-None.ensures.reader)
    c.write_or_listen.ensures.turns
