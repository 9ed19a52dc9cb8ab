use Rattle.std.proofs.Common.{[], ◌∷◌}
use Rattle.list_machine.specs.Examples.{opening, stream_of}
use Rattle.list_machine.specs.Wrongs.{first_chunk}
use Rattle.list_machine.proofs.Refusing.{no_step, confirm_early, confirm_twice, confirm_undeclared, confirm_above}
use Rattle.list_machine.proofs.examples.wrong_confirms_are_refused.Goals as goal

pub returns-clause-early : goal.returns-clause-early
returns-clause-early c = no_step _ _ _ confirm_early

pub returns-clause-twice : goal.returns-clause-twice
returns-clause-twice c = no_step _ _ _ (confirm_twice (stream_of (opening ∷ first_chunk ∷ []) [] [] []))

pub returns-clause-undeclared : goal.returns-clause-undeclared
returns-clause-undeclared c = no_step _ _ _ confirm_undeclared

pub returns-clause-above : goal.returns-clause-above
returns-clause-above c = no_step _ _ _ confirm_above
