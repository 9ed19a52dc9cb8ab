use Rattle.std.proofs.Common.{ap, sym, ◌∙◌, Some}
use Rattle.chunk_format.specs.declared.chunk.Header.{Header}
use Rattle.stream_terms.proofs.ListLaws.{first_last}
use Rattle.stream_terms.proofs.lists.last_first.Goals as goal

pub returns-in-Some : goal.returns-in-Some
returns-in-Some c = ap (λ (h : Header). Some h.first) c.header.ensures.header ∙ sym (first_last c.args.chunks.now c.in-Some.last.now c.in-Some.field-0-1.now c.in-Some.ensures.cases.0)
