use Rattle.std.proofs.Common.{arith}
use Rattle.chunk_view.proofs.ViewLaws.{only_view, told_view}
use Rattle.chunk_view.proofs.view.ChunkView.open.Goals as goal

pub returns-clause-only : goal.returns-clause-only
returns-clause-only c = λ chunk used begins. only_view c.args.bytes.now (λ i. omega (arith, c.type_inv.bytes i)) c.checked_view.result c.checked_view.ensures chunk used begins

pub returns-clause-told : goal.returns-clause-told
returns-clause-told c = λ fault wrong. told_view c.args.bytes.now (λ i. omega (arith, c.type_inv.bytes i)) c.checked_view.result c.checked_view.ensures fault wrong
