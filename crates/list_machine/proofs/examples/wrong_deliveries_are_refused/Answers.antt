use Rattle.std.proofs.Common.{[], ◌∷◌, refl, arith}
use Rattle.list_machine.specs.Examples.{opening, stored_chunk, stream_of}
use Rattle.list_machine.specs.Wrongs.{first_chunk, second_chunk, third_chunk}
use Rattle.list_machine.proofs.Refusing.{no_step, uncredited, to_waiting, other_next, none_next}
use Rattle.list_machine.proofs.examples.wrong_deliveries_are_refused.Goals as goal

pub returns-clause-uncredited : goal.returns-clause-uncredited
returns-clause-uncredited c = no_step _ _ _ (uncredited (stream_of (opening ∷ first_chunk ∷ []) [] [] []) _ first_chunk refl)

pub returns-clause-out_of_order : goal.returns-clause-out_of_order
returns-clause-out_of_order c = no_step _ _ _ (other_next (stream_of (opening ∷ first_chunk ∷ second_chunk ∷ []) [] [] []) _ second_chunk first_chunk refl (λ e. absurd (omega (arith, e))))

pub returns-clause-past_gap : goal.returns-clause-past_gap
returns-clause-past_gap c = no_step _ _ _ (other_next (stream_of (opening ∷ first_chunk ∷ second_chunk ∷ third_chunk ∷ []) [] [] []) _ third_chunk second_chunk refl (λ e. absurd (omega (arith, e))))

pub returns-clause-of_delta : goal.returns-clause-of_delta
returns-clause-of_delta c = no_step _ _ _ (none_next (stream_of (opening ∷ stored_chunk 1 ∷ []) [] [] []) _ (stored_chunk 1) refl)

pub returns-clause-to_waiting : goal.returns-clause-to_waiting
returns-clause-to_waiting c = no_step _ _ _ (to_waiting (stream_of (opening ∷ first_chunk ∷ []) [] [] []) _ first_chunk refl)
