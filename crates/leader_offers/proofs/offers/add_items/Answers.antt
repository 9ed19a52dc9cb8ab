use Rattle.std.proofs.Common.{◌≤◌, nat_lt, refl, sym, ap, subst, ◌∙◌, arith}
use Rattle.epoch_coordinator.specs.Members.{MemberState, sequence_of}
use Rattle.chunk_format.specs.ByName.{Greatest}
use Rattle.leader_offers.specs.Leads.{Leads}
use Rattle.leader_offers.specs.Adds.{references_with}
use Rattle.leader_offers.proofs.Lines.{some_same}
use Rattle.leader_offers.proofs.Gives.{nothing_added, more_publishers, fewer, above, same_references, ok_from, err_from, refused_from}
use Rattle.leader_offers.proofs.offers.add_items.Goals as goal

pub returns-in-Err-clause-err : goal.returns-in-Err-clause-err
returns-in-Err-clause-err c = some_same c.args.leader.now c.greatest.new.self c.requires.leads c.in-Err.ensures.same

pub returns-then-not-any_taken-clause-ok : goal.returns-then-not-any_taken-clause-ok
returns-then-not-any_taken-clause-ok c = nothing_added c.args.limits.now c.args.leader.now c.greatest.new.self c.args.name.now c.in-Ok.greatest c.args.items.now c.args.now _ c.requires.leads c.in-Ok.ensures.same c.in-Ok.ensures.greatest c.requires.whole (c.any_taken.ensures.none c.if-not-any_taken.true) c.end.ensures refl (c.any_taken.ensures.fits c.if-not-any_taken.true)

pub returns-in-Err-more_references-clause-err : goal.returns-in-Err-more_references-clause-err
returns-in-Err-more_references-clause-err c = some_same c.args.leader.now c.more_references.new.leader c.requires.leads (c.in-Err-more_references.ensures.same ∙ c.in-Ok.ensures.same)

pub returns-then-more-clause-err : goal.returns-then-more-clause-err
returns-then-more-clause-err c = some_same c.args.leader.now c.more_references.new.leader c.requires.leads (c.in-Ok-more_references.ensures.same ∙ c.in-Ok.ensures.same)

pub returns-then-more-clause-refused : goal.returns-then-more-clause-refused
returns-then-more-clause-refused c = more_publishers c.args.limits.now c.args.leader.now c.args.name.now c.in-Ok.greatest c.args.items.now c.args.now c.from.result c.in-Ok.ensures.greatest c.requires.whole (c.any_taken.ensures.some (grind (arith, c.if-not-any_taken.false))) (above c.args.limits.now.references (references_with c.args.name.now c.args.leader.now) c.in-Ok-more_references.more (c.in-Ok-more_references.ensures.more ∙ ap (nat_lt c.args.limits.now.references) (same_references c.args.leader.now c.greatest.new.self c.args.name.now c.in-Ok.greatest c.in-Ok.ensures.same c.in-Ok.ensures.greatest)) c.if-more.true) c.from.ensures

pub lay_within-requires-clause-leads : goal.lay_within-requires-clause-leads
lay_within-requires-clause-leads c = subst Leads (sym (c.in-Ok-more_references.ensures.same ∙ c.in-Ok.ensures.same)) c.requires.leads

pub lay_within-requires-clause-greatest : goal.lay_within-requires-clause-greatest
lay_within-requires-clause-greatest c = c.in-Ok.ensures.greatest ∙ ap (λ (x : MemberState). Greatest c.args.name.now (sequence_of x)) (sym (c.in-Ok-more_references.ensures.same ∙ c.in-Ok.ensures.same))

pub lay_within-requires-clause-taken : goal.lay_within-requires-clause-taken
lay_within-requires-clause-taken c = c.any_taken.ensures.some (grind (arith, c.if-not-any_taken.false))

pub lay_within-requires-clause-names : goal.lay_within-requires-clause-names
lay_within-requires-clause-names c = subst (λ (x : MemberState). references_with c.args.name.now x ≤ c.args.limits.now.references) (sym (c.in-Ok-more_references.ensures.same ∙ c.in-Ok.ensures.same)) (fewer c.args.limits.now.references (references_with c.args.name.now c.args.leader.now) c.in-Ok-more_references.more (c.in-Ok-more_references.ensures.more ∙ ap (nat_lt c.args.limits.now.references) (same_references c.args.leader.now c.greatest.new.self c.args.name.now c.in-Ok.greatest c.in-Ok.ensures.same c.in-Ok.ensures.greatest)) c.if-more.false)

pub returns-clause-ok : goal.returns-clause-ok
returns-clause-ok c = ok_from c.lay_within.result c.args.limits.now c.args.leader.now c.more_references.new.leader c.lay_within.new.leader c.args.name.now c.args.items.now c.args.now (c.in-Ok-more_references.ensures.same ∙ c.in-Ok.ensures.same) c.lay_within.ensures.ok

pub returns-clause-err : goal.returns-clause-err
returns-clause-err c = err_from c.lay_within.result c.args.leader.now c.more_references.new.leader c.lay_within.new.leader (c.in-Ok-more_references.ensures.same ∙ c.in-Ok.ensures.same) c.lay_within.ensures.err

pub returns-clause-refused : goal.returns-clause-refused
returns-clause-refused c = refused_from c.lay_within.result c.args.limits.now c.args.leader.now c.more_references.new.leader c.args.name.now c.args.items.now c.args.now (c.in-Ok-more_references.ensures.same ∙ c.in-Ok.ensures.same) c.lay_within.ensures.refused
