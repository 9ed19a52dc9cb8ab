use Rattle.std.proofs.Common.{◌≡◌, ℕ, ap, ◌∙◌}
use Rattle.std.proofs.lemmas.List.Elements.{All-from_recursion}
use Rattle.command_all.specs.Fitting.{IsRefusal}
use Rattle.command_data.specs.declared.item.Refusal.{Refusal}
use Rattle.session_tables.specs.Spelling.{refusal_of}
use Rattle.session_tables.proofs.Rows.{refused_so, made_more, made_all, one_more}
use Rattle.session_tables.proofs.words.refusals.Goals as goal

pub items-preserved : goal.items-preserved
items-preserved c = record {
  made = made_more (refusal_of c.args.code) c.args.items.now c.items.item-index c.items.row c.push.new.self c.item-item.result c.refused.result c.items.invariant.made c.item-item.is c.items-test.true (refused_so c.item-item.result c.args.code c.number_of-number.result c.refused.result c.number_of-number.ensures.is c.refused.ensures.is) c.in-Ok.ensures.ok;
  fits = one_more IsRefusal c.items.row c.push.new.self c.refused.result c.items.invariant.fits c.refused.ensures.fits c.in-Ok.ensures.ok;
}

pub returns-clause-is : goal.returns-clause-is
returns-clause-is c = made_all (refusal_of c.args.code) c.args.items.now c.items.item-index c.items.row c.items.invariant.made c.items-test.false

pub returns-clause-fits : goal.returns-clause-fits
returns-clause-fits c = All-from_recursion IsRefusal c.items.row c.items.invariant.fits
