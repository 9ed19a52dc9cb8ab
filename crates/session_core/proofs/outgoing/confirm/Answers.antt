use Rattle.std.proofs.Common.{ℕ, List, subst, arith}
use Rattle.std.specs.Prelude.{All}
use Rattle.command_all.specs.Fitting.{IsId}
use Rattle.session_core.proofs.Sayable.{confirm_fits}
use Rattle.session_core.proofs.outgoing.confirm.Goals as goal

pub head_alone-requires : goal.head_alone-requires
head_alone-requires c = confirm_fits c.args.id c.args.ids (omega arith) (subst (λ (ids : List ℕ). All IsId ids) c.as_slice.ensures c.see_ids.ensures) c.requires
