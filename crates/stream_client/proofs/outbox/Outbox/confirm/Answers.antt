use Rattle.std.proofs.Common.{◌≡◌, ◌-◌, ap, arith}
use Rattle.stream_client.specs.Outboxes.{Outgoing}
use Rattle.stream_client.proofs.Posting.{Confirmed, count_few, confirm_kept, confirm_learns}
use Rattle.stream_client.proofs.outbox.Outbox.confirm.Goals as goal

pub skip-requires : goal.skip-requires
skip-requires c =
    let o : Outgoing = record { confirmed = c.self.inside.ids.upto; above = c.self.inside.ids.above; queue = c.self.inside.queue; last = c.self.inside.last } in
    let done : Confirmed o c.args.id c.add.new.self = record { is = c.self.invariant; sent = omega (arith, c.requires, ap (λ (v : Outgoing). v.last) c.self.view_is); apart = c.upto.ensures.apart; adds = c.in_ok-add.ensures.added } in
    count_few o c.args.id _ c.add.new.self done (omega (arith, c.saturating_sub-count.ensures, c.upto.ensures.is, c.upto-before.ensures.is))

pub invariant_of-self-2 : goal.invariant_of-self-2
invariant_of-self-2 c =
    let o : Outgoing = record { confirmed = c.self.inside.ids.upto; above = c.self.inside.ids.above; queue = c.self.inside.queue; last = c.self.inside.last } in
    let done : Confirmed o c.args.id c.add.new.self = record { is = c.self.invariant; sent = omega (arith, c.requires, ap (λ (v : Outgoing). v.last) c.self.view_is); apart = c.upto.ensures.apart; adds = c.in_ok-add.ensures.added } in
    confirm_kept o c.args.id c.saturating_sub-count.result c.add.new.self c.skip.new.self done (omega (arith, c.saturating_sub-count.ensures, c.upto.ensures.is, c.upto-before.ensures.is)) c.skip.ensures

pub returns-clause-ok : goal.returns-clause-ok
returns-clause-ok c =
    let o : Outgoing = record { confirmed = c.self.inside.ids.upto; above = c.self.inside.ids.above; queue = c.self.inside.queue; last = c.self.inside.last } in
    let done : Confirmed o c.args.id c.add.new.self = record { is = c.self.invariant; sent = omega (arith, c.requires, ap (λ (v : Outgoing). v.last) c.self.view_is); apart = c.upto.ensures.apart; adds = c.in_ok-add.ensures.added } in
    confirm_learns c.args.self.now o c.args.id c.saturating_sub-count.result c.add.new.self c.skip.new.self c.self.view_is done (omega (arith, c.saturating_sub-count.ensures, c.upto.ensures.is, c.upto-before.ensures.is)) c.skip.ensures
