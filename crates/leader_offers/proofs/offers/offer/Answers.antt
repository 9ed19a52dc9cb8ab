use Rattle.std.proofs.Common.{sym, subst, ◌∙◌}
use Rattle.member_core.specs.States.{Marks}
use Rattle.leader_offers.proofs.Lines.{marked_leads, leads_open, taken_back_is}
use Rattle.leader_offers.proofs.offers.offer.Goals as goal

pub add_items-requires-clause-leads : goal.add_items-requires-clause-leads
add_items-requires-clause-leads c = marked_leads c.args.leader.now c.mark-mark.result c.requires.open c.mark-mark.ensures.back

pub take_back-requires-clause-open : goal.take_back-requires-clause-open
take_back-requires-clause-open c = leads_open c.add_items.new.leader c.in-Err.ensures.err.1.leads

pub take_back-requires-clause-marked : goal.take_back-requires-clause-marked
take_back-requires-clause-marked c = subst (Marks c.mark-mark.result) (sym c.in-Err.ensures.err.1.state) (c.mark-mark.ensures.marks c.in-Err.ensures.err.0)

pub returns-in-Err : goal.returns-in-Err
returns-in-Err c = (c.in-Err.ensures.refused, c.take_back.ensures ∙ taken_back_is c.args.leader.now c.add_items.new.leader c.mark-mark.result c.mark-mark.ensures.back c.in-Err.ensures.err)
