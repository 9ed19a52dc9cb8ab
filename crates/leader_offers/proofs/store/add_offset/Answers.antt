use Rattle.std.proofs.Common.{◌≤◌, nat_lt, sym, ap, subst, ◌∙◌}
use Rattle.epoch_coordinator.specs.Members.{MemberState}
use Rattle.leader_offers.specs.Leads.{Leads}
use Rattle.leader_offers.specs.Adds.{consumers_with}
use Rattle.leader_offers.proofs.Lines.{some_same}
use Rattle.leader_offers.proofs.Gives.{more_consumers_are, fewer, above, same_consumers, err_from, offset_ok_from, offset_refused_from}
use Rattle.leader_offers.proofs.store.add_offset.Goals as goal

pub returns-in-Err-clause-err : goal.returns-in-Err-clause-err
returns-in-Err-clause-err c = some_same c.args.leader.now c.stored.new.self c.requires.leads c.in-Err.ensures.same

pub returns-in-Err-more_consumers-clause-err : goal.returns-in-Err-more_consumers-clause-err
returns-in-Err-more_consumers-clause-err c = some_same c.args.leader.now c.more_consumers.new.leader c.requires.leads (c.in-Err-more_consumers.ensures.same ∙ c.in-Ok.ensures.same)

pub returns-then-more-clause-err : goal.returns-then-more-clause-err
returns-then-more-clause-err c = some_same c.args.leader.now c.more_consumers.new.leader c.requires.leads (c.in-Ok-more_consumers.ensures.same ∙ c.in-Ok.ensures.same)

pub returns-then-more-clause-refused : goal.returns-then-more-clause-refused
returns-then-more-clause-refused c = more_consumers_are c.args.limits.now c.args.leader.now c.args.name.now c.args.offset c.args.now c.from.result c.requires.some c.requires.few (above c.args.limits.now.consumers (consumers_with c.args.name.now c.args.leader.now) c.in-Ok-more_consumers.more (c.in-Ok-more_consumers.ensures.more ∙ ap (nat_lt c.args.limits.now.consumers) (same_consumers c.args.leader.now c.stored.new.self c.args.name.now c.in-Ok.stored c.in-Ok.ensures.same c.in-Ok.ensures.stored)) c.if-more.true) c.from.ensures

pub store_within-requires-clause-leads : goal.store_within-requires-clause-leads
store_within-requires-clause-leads c = subst Leads (sym (c.in-Ok-more_consumers.ensures.same ∙ c.in-Ok.ensures.same)) c.requires.leads

pub store_within-requires-clause-names : goal.store_within-requires-clause-names
store_within-requires-clause-names c = subst (λ (x : MemberState). consumers_with c.args.name.now x ≤ c.args.limits.now.consumers) (sym (c.in-Ok-more_consumers.ensures.same ∙ c.in-Ok.ensures.same)) (fewer c.args.limits.now.consumers (consumers_with c.args.name.now c.args.leader.now) c.in-Ok-more_consumers.more (c.in-Ok-more_consumers.ensures.more ∙ ap (nat_lt c.args.limits.now.consumers) (same_consumers c.args.leader.now c.stored.new.self c.args.name.now c.in-Ok.stored c.in-Ok.ensures.same c.in-Ok.ensures.stored)) c.if-more.false)

pub returns-clause-ok : goal.returns-clause-ok
returns-clause-ok c = offset_ok_from c.store_within.result c.args.limits.now c.args.leader.now c.more_consumers.new.leader c.store_within.new.leader c.args.name.now c.args.offset c.args.now (c.in-Ok-more_consumers.ensures.same ∙ c.in-Ok.ensures.same) c.store_within.ensures.ok

pub returns-clause-err : goal.returns-clause-err
returns-clause-err c = err_from c.store_within.result c.args.leader.now c.more_consumers.new.leader c.store_within.new.leader (c.in-Ok-more_consumers.ensures.same ∙ c.in-Ok.ensures.same) c.store_within.ensures.err

pub returns-clause-refused : goal.returns-clause-refused
returns-clause-refused c = offset_refused_from c.store_within.result c.args.limits.now c.args.leader.now c.more_consumers.new.leader c.args.name.now c.args.offset c.args.now (c.in-Ok-more_consumers.ensures.same ∙ c.in-Ok.ensures.same) c.store_within.ensures.refused
