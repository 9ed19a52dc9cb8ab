use Rattle.std.proofs.Common.{refl, sym, subst, ◌∙◌}
use Rattle.member_core.specs.States.{Marks}
use Rattle.leader_offers.proofs.Lines.{marked_leads, leads_open, taken_back_is}
use Rattle.leader_offers.proofs.Gives.{named_added, named_refused, bad_name}
use Rattle.leader_offers.proofs.store.store_offset.Goals as goal

pub returns-in-Err : goal.returns-in-Err
returns-in-Err c = (bad_name c.args.limits.now c.args.leader.now c.args.name.now c.args.offset c.args.now c.in-Err.fault c.in-Err.ensures.refused.0 c.in-Err.ensures.refused.1, refl)

pub add_offset-requires-clause-leads : goal.add_offset-requires-clause-leads
add_offset-requires-clause-leads c = marked_leads c.args.leader.now c.mark-mark.result c.requires c.mark-mark.ensures.back

pub take_back-requires-clause-open : goal.take_back-requires-clause-open
take_back-requires-clause-open c = leads_open c.add_offset.new.leader c.in-Err-add_offset.ensures.err.1.leads

pub take_back-requires-clause-marked : goal.take_back-requires-clause-marked
take_back-requires-clause-marked c = subst (Marks c.mark-mark.result) (sym c.in-Err-add_offset.ensures.err.1.state) (c.mark-mark.ensures.marks c.in-Err-add_offset.ensures.err.0)

pub returns-in-Ok-add_offset : goal.returns-in-Ok-add_offset
returns-in-Ok-add_offset c = named_added c.args.limits.now c.args.leader.now c.add_offset.new.leader c.args.name.now c.in-Ok.bytes.now c.args.offset c.args.now c.in-Ok-add_offset.taken c.in-Ok.ensures.named.0 c.in-Ok-add_offset.ensures.ok

pub returns-in-Err-add_offset : goal.returns-in-Err-add_offset
returns-in-Err-add_offset c = (named_refused c.args.limits.now c.args.leader.now c.args.name.now c.in-Ok.bytes.now c.args.offset c.args.now c.in-Err-add_offset.fault c.in-Ok.ensures.named.0 c.in-Err-add_offset.ensures.refused, c.take_back.ensures ∙ taken_back_is c.args.leader.now c.add_offset.new.leader c.mark-mark.result c.mark-mark.ensures.back c.in-Err-add_offset.ensures.err)
