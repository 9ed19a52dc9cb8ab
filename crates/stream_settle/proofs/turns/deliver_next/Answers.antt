use Rattle.std.proofs.Common.{sym, ◌∙◌}
use Rattle.stream_settle.proofs.Advancing.{letter_leads}
use Rattle.stream_settle.proofs.turns.deliver_next.Goals as goal

pub returns-in-Some-clause-leads : goal.returns-in-Some-clause-leads
returns-in-Some-clause-leads c = letter_leads c.args.now c.in-Some.number c.turn.result c.args.cluster.now c.turn.new.cluster c.requires (sym c.next_letter.ensures ∙ c.in-Some.is) c.turn.ensures
