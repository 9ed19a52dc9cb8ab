use Rattle.std.specs.List.{AllByRecursion}
use Rattle.command_all.specs.Fitting.{IsRefusal}
use Rattle.session_tables.specs.Spelling.{refusal_of}
use Rattle.session_tables.proofs.Rows.{MadeSo}
use Rattle.session_tables.proofs.words.refusals.Given as goal

abbrev pub invariant-items : goal.invariant-items
invariant-items l = record {
  made : MadeSo (refusal_of l.fn.code) l.fn.items l.item-index l.row;
  fits : AllByRecursion IsRefusal l.row;
}
