use Rattle.std.proofs.Common.{arith, sym}
use Rattle.segment_store.proofs.Writing.{no_rows, no_last, some_last}
use Rattle.segment_store.proofs.rows.last_at.Goals as goal

pub returns-in-None : goal.returns-in-None
returns-in-None c x older are can = no_last _ x older (no_rows _ c.in-None.ensures.value) are can

pub returns-in-Some : goal.returns-in-Some
returns-in-Some c x older are can = some_last _ c.in-Some.row.now c.saturating_add.result x older (sym c.in-Some.ensures.value) (λ few. omega (arith, c.saturating_add.ensures, few)) are can
