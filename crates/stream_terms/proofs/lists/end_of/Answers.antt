use Rattle.std.proofs.Common.{sym, ◌∙◌}
use Rattle.stream_terms.proofs.ListLaws.{end_last}
use Rattle.stream_terms.proofs.lists.end_of.Goals as goal

pub returns-in-Some : goal.returns-in-Some
returns-in-Some c = c.end_of_stored.ensures ∙ sym (end_last c.args.chunks.now c.in-Some.last.now c.in-Some.field-0-1.now c.in-Some.ensures.cases.0)
