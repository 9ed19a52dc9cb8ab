use Rattle.std.proofs.Common.{sym, ap, ◌∙◌}
use Rattle.chunk_format.specs.declared.chunk.Header.{Header}
use Rattle.chunk_format.specs.Tags.{SnapshotSequence}
use Rattle.tracking_state.specs.Said.{SaysItem}
use Rattle.tracking_state.proofs.Reading.{user_said, says_right}
use Rattle.tracking_state.proofs.said.said_by.Goals as goal

pub returns-in_ok-tag-in-User-clause-says : goal.returns-in_ok-tag-in-User-clause-says
returns-in_ok-tag-in-User-clause-says c =
    let header = c.header-header.ensures.header in
    let arm = c.in_ok-tag-in-User in
    user_said c.args.chunk.now c.trailer_of.result.now arm.tag c.header-header.result.now.first c.header-header.ensures.is_chunk
    (sym (ap (λ (h : Header). h.kind) header) ∙ c.in-User.is) (ap (λ (h : Header). h.first) header)
    c.trailer_of.ensures arm.ensures.none arm.ensures.some

pub returns-in_ok-tag-in-User-clause-right : goal.returns-in_ok-tag-in-User-clause-right
returns-in_ok-tag-in-User-clause-right c =
    let header = c.header-header.ensures.header in
    let arm = c.in_ok-tag-in-User in
    let says : SaysItem c.args.chunk.now (SnapshotSequence arm.tag.name.now c.header-header.result.now.first arm.tag.id) =
    user_said c.args.chunk.now c.trailer_of.result.now arm.tag c.header-header.result.now.first c.header-header.ensures.is_chunk
    (sym (ap (λ (h : Header). h.kind) header) ∙ c.in-User.is) (ap (λ (h : Header). h.first) header)
    c.trailer_of.ensures arm.ensures.none arm.ensures.some in
    says_right c.args.chunk.now (SnapshotSequence arm.tag.name.now c.header-header.result.now.first arm.tag.id) c.header-header.ensures.is_chunk says
