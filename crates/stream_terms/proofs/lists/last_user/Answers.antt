use Rattle.std.proofs.Common.{◌≡◌, true, ap, sym, ◌∙◌, Some}
use Rattle.chunk_format.specs.declared.chunk.Header.{Header}
use Rattle.chunk_format.specs.Logs.{is_user}
use Rattle.stream_terms.proofs.ListLaws.{user_last}
use Rattle.stream_terms.proofs.lists.last_user.Goals as goal

pub returns-then-is_user : goal.returns-then-is_user
returns-then-is_user c =
    let header = c.header-header.ensures.header in
    let user : is_user c.in-Some.last.now.kind ≡ true = ap (λ (h : Header). is_user h.kind) (sym header) ∙ sym c.is_user.ensures ∙ c.if-is_user.true in
    ap (λ (h : Header). Some h.first) header ∙ sym (user_last c.chunks.left.now c.in-Some.last.now c.in-Some.rest.now c.in-Some.ensures.cases.0 user) ∙ c.chunks.invariant
