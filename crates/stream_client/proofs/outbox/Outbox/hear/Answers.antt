use Rattle.std.proofs.Common.{ap, subst, arith}
use Rattle.confirmed_ids.specs.Ids.{AreApart}
use Rattle.stream_client.specs.Outboxes.{Outgoing}
use Rattle.stream_client.proofs.Posting.{learned_not}
use Rattle.stream_client.proofs.outbox.Outbox.hear.Goals as goal

pub returns-then-id-self-clause-ok : goal.returns-then-id-self-clause-ok
returns-then-id-self-clause-ok c =
    learned_not c.args.self.now c.args.id c.self.inside.last (subst (λ (v : Outgoing). AreApart v.confirmed v.above) c.self.view_is c.upto-apart.ensures.apart) (ap (λ (v : Outgoing). v.last) c.self.view_is) (omega (arith, c.if-id-self.true))
