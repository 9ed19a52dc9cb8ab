use Rattle.std.proofs.Common.{sym, ap, ◌∙◌}
use Rattle.chunk_format.specs.Logs.{end_of}
use Rattle.chunk_format.proofs.LinkLaws.{end_push}
use Rattle.cluster_core.proofs.committed.list_end.Goals as goal

pub returns-in-Some : goal.returns-in-Some
returns-in-Some c = c.chunk_end.ensures ∙ sym (ap end_of c.in-Some.ensures.cases.0 ∙ end_push c.in-Some.field-0-1.now c.in-Some.last.now)
