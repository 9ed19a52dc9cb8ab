use Rattle.std.proofs.Common.{◌∙◌, arith}
use Rattle.session_link.proofs.Sendings.{putting_next, putting_stops, cause_more}
use Rattle.session_link.proofs.sending.put_said.Goals as goal

pub said-preserved : goal.said-preserved
said-preserved g c =
    let later = c.in-Sent.ensures.cause.later in
    let before = c.said.invariant.3 in (
      putting_next _ c.args.joined.now c.args.said _ _ c.said.joined c.put_one.new.joined c.said.left.items c.pop_front.new.self.items c.in-Some.unasked c.said.invariant.0 c.in-Some.ensures.items c.in-Sent.ensures.sent,
      c.in-Sent.ensures.heard ∙ c.said.invariant.1,
      c.in-Sent.ensures.ended ∙ c.said.invariant.2,
      omega (arith, later, before),
    )

pub returns-in_default-put_one : goal.returns-in_default-put_one
returns-in_default-put_one g c = record {
  sent = putting_stops _ c.args.joined.now c.args.said _ _ c.said.joined c.put_one.new.joined c.put_one.new.joined c.said.left.items c.pop_front.new.self.items c.in-Some.unasked c.put_one.result c.said.invariant.0 c.in-Some.ensures.items c.in_default-put_one.not-Sent c.put_one.ensures.sent;
  heard = c.put_one.ensures.heard ∙ c.said.invariant.1;
  ended = c.put_one.ensures.ended ∙ c.said.invariant.2;
  cause = cause_more _ _ _ _ c.said.invariant.3 c.put_one.ensures.cause;
}
