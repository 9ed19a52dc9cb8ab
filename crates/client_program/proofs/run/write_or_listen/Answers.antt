use Rattle.client_program.proofs.RunLaws.{heard_at, wrote_at, takes_some, takes_none, heard_from}
use Rattle.client_program.proofs.run.write_or_listen.Goals as goal

pub returns-then-left-eq0-clause-turns : goal.returns-then-left-eq0-clause-turns
returns-then-left-eq0-clause-turns g c = heard_at c.listen.result _ _ _ _ _ _ _ _ c.requires c.listen.ensures.heard c.listen.ensures.sent

pub returns-in-Ok-Some-clause-turns : goal.returns-in-Ok-Some-clause-turns
returns-in-Ok-Some-clause-turns g c =
    wrote_at c.write.result _ _ _ _ _ _ _ _ _ c.requires
    (takes_some c.args.core.now c.next_received.new.self _ _ c.in-Ok-Some.field-0-is c.in-Ok-Some.ensures.first c.in-Ok-Some.ensures.step c.in-Ok-Some.ensures.reader)
    c.write.ensures.wrote

pub returns-in-Ok-None-clause-turns : goal.returns-in-Ok-None-clause-turns
returns-in-Ok-None-clause-turns g c =
    heard_at c.listen-in-Ok-None.result _ _ _ _ _ _ _ _ c.requires
    (heard_from _ _ _ _ _ _ (takes_none c.args.core.now c.next_received.new.self _ c.in-Ok-None.field-0-is c.in-Ok-None.ensures.first c.in-Ok-None.ensures.step c.in-Ok-None.ensures.reader) c.listen-in-Ok-None.ensures.heard)
    c.listen-in-Ok-None.ensures.sent
