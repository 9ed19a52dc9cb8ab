use Rattle.std.proofs.Common.{refl, arith}
use Rattle.osiris_audit.proofs.Taking.{turn_fits, turn_long, turn_goes, turn_next, turn_unwritten, turn_wrong, turn_last, turn_index_broken, turn_segment_broken}
use Rattle.osiris_audit.proofs.Causing.{either_left, either_right, either_never}
use Rattle.osiris_audit.proofs.inspecting.take_turn.Goals as goal

pub returns-in-Ok-false-clause-turn : goal.returns-in-Ok-false-clause-turn
returns-in-Ok-false-clause-turn g c = λ s0 i0 w0 far. turn_last c.in-Ok-false.field-0 _ c.args.end.now c.rest.result.now s0 _ i0 _ _ w0 _ _ c.args.index_window.now c.need.new.self c.in-Ok-false.field-0-test c.in-Ok-false.ensures.grew refl c.rest.ensures far

pub returns-in-Ok-false-clause-cause : goal.returns-in-Ok-false-clause-cause
returns-in-Ok-false-clause-cause g c = either_never _ _ _ _ (omega arith) c.in-Ok-false.ensures.cause.later (λ e. absurd cc)

pub returns-in-Err-clause-turn : goal.returns-in-Err-clause-turn
returns-in-Err-clause-turn g c = λ s0 i0 w0 far. turn_index_broken c.in-Err.fault c.args.end.now s0 _ i0 _ _ w0 _ _ c.args.index_window.now c.need.new.self c.in-Err.ensures.grew far

pub returns-in-Err-clause-cause : goal.returns-in-Err-clause-cause
returns-in-Err-clause-cause g c = either_right _ _ _ _ (omega arith) c.in-Err.ensures.cause (λ e. cc e)

pub find-requires-clause-record : goal.find-requires-clause-record
find-requires-clause-record g c = turn_long c.in-Ok-true.field-0 c.rest-2.result.now _ _ c.args.index_window.now c.need.new.self c.in-Ok-true.field-0-test c.rest-2.ensures c.in-Ok-true.ensures.grew

pub skip-requires : goal.skip-requires
skip-requires g c = turn_fits c.in-Ok-Match.field-0 c.args.end.now c.rest-2.result.now _ c.in-Ok-Match.used c.in-Ok-Match.next _ _ c.args.segment_window.now c.find.new.window c.in-Ok-Match.field-0-is c.in-Ok-Match.ensures.finds

pub skip-requires-in-Done : goal.skip-requires-in-Done
skip-requires-in-Done g c = turn_long c.in-Ok-true.field-0 c.need.new.self.rest _ _ c.args.index_window.now c.need.new.self c.in-Ok-true.field-0-test refl c.in-Ok-true.ensures.grew

pub returns-in-Done-clause-turn : goal.returns-in-Done-clause-turn
returns-in-Done-clause-turn g c = λ s0 i0 w0 far.
    turn_next c.in-Ok-true.field-0 c.in-Ok-Match.field-0 c.args.end.now c.rest-2.result.now _ c.as_slice.result.now c.in-Ok-Match.used c.in-Ok-Match.next s0 _ _ i0 _ _ w0 _ _ c.args.segment_window.now c.find.new.window c.skip.new.self c.args.index_window.now c.need.new.self c.skip-in-Done.new.self
    c.in-Ok-true.field-0-test c.in-Ok-true.ensures.grew c.rest-2.ensures c.in-Ok-Match.field-0-is c.in-Ok-Match.ensures.finds c.as_slice.ensures c.in-Done.ensures.gave c.skip.ensures c.skip-in-Done.ensures far

pub returns-in-Done-clause-goes : goal.returns-in-Done-clause-goes
returns-in-Done-clause-goes g c = λ e. turn_goes c.in-Ok-true.field-0 _ _ c.args.index_window.now c.need.new.self c.skip-in-Done.new.self c.in-Ok-true.field-0-test c.in-Ok-true.ensures.grew c.skip-in-Done.ensures

pub returns-in-Done-clause-cause : goal.returns-in-Done-clause-cause
returns-in-Done-clause-cause g c = either_never _ _ _ _ c.in-Ok-Match.ensures.cause.later c.in-Ok-true.ensures.cause.later (λ e. absurd cc)

pub returns-in-Ok-Match-clause-turn : goal.returns-in-Ok-Match-clause-turn
returns-in-Ok-Match-clause-turn g c = λ s0 i0 w0 far.
    turn_unwritten c.in-Ok-true.field-0 c.in-Ok-Match.field-0 c.in-Failed.ensures.gave.0 c.args.end.now c.rest-2.result.now _ c.as_slice.result.now c.in-Ok-Match.used c.in-Ok-Match.next s0 _ _ i0 _ _ w0 _ _ c.args.segment_window.now c.find.new.window c.args.index_window.now c.need.new.self
    c.in-Ok-true.field-0-test c.in-Ok-true.ensures.grew c.rest-2.ensures c.in-Ok-Match.field-0-is c.in-Ok-Match.ensures.finds c.as_slice.ensures c.in-Failed.ensures.gave.1 far

pub returns-in-Ok-Match-clause-cause : goal.returns-in-Ok-Match-clause-cause
returns-in-Ok-Match-clause-cause g c = either_never _ _ _ _ c.in-Ok-Match.ensures.cause.later c.in-Ok-true.ensures.cause.later (λ e. absurd cc)

pub returns-in-Ok-Wrong-clause-turn : goal.returns-in-Ok-Wrong-clause-turn
returns-in-Ok-Wrong-clause-turn g c = λ s0 i0 w0 far.
    turn_wrong c.in-Ok-true.field-0 c.in-Ok-Wrong.field-0 c.args.end.now c.rest-2.result.now _ s0 _ _ i0 _ _ w0 _ c.args.segment_window.now c.find.new.window c.args.index_window.now c.need.new.self c.in-Ok-true.field-0-test c.in-Ok-true.ensures.grew c.rest-2.ensures c.in-Ok-Wrong.field-0-is c.in-Ok-Wrong.ensures.finds far

pub returns-in-Ok-Wrong-clause-cause : goal.returns-in-Ok-Wrong-clause-cause
returns-in-Ok-Wrong-clause-cause g c = either_never _ _ _ _ c.in-Ok-Wrong.ensures.cause.later c.in-Ok-true.ensures.cause.later (λ e. absurd cc)

pub returns-clause-turn : goal.returns-clause-turn
returns-clause-turn g c = λ s0 i0 w0 far.
    turn_segment_broken c.in-Ok-true.field-0 c.in-Err-find.fault c.args.end.now c.rest-2.result.now _ s0 _ _ i0 _ _ w0 _ c.args.segment_window.now c.find.new.window c.args.index_window.now c.need.new.self c.in-Ok-true.field-0-test c.in-Ok-true.ensures.grew c.in-Err-find.ensures.finds far

pub returns-clause-cause : goal.returns-clause-cause
returns-clause-cause g c = either_left _ _ _ _ c.in-Err-find.ensures.cause c.in-Ok-true.ensures.cause.later (λ e. cc e)
