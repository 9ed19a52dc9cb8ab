use Rattle.std.proofs.Common.{◌++◌, ◌∷◌, []}
use Rattle.stream_terms.proofs.Keeping.{counted}
use Rattle.list_machine.proofs.ViewMoves.{may_confirm_handed}
use Rattle.list_machine.proofs.joining.handed_out_is_confirmed.Goals as goal

pub returns : goal.returns
returns c = λ stream view spent w items h. may_confirm_handed stream view spent w items h (counted view (spent ++ w ∷ []) h.holds)
