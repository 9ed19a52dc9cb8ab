use Rattle.osiris_audit.proofs.Taking.{step_fits, step_goes, step_done, step_unwritten, step_none, step_broken}
use Rattle.osiris_audit.proofs.reindexing.take_step.Goals as goal

pub skip-requires : goal.skip-requires
skip-requires g c = step_fits c.in-Ok-Some.field-0 c.args.end.now c.in-Ok-Some.step _ _ c.args.window.now c.next_step.new.window c.in-Ok-Some.field-0-is c.in-Ok-Some.ensures.nexts

pub returns-in-Done-clause-step : goal.returns-in-Done-clause-step
returns-in-Done-clause-step g c = λ s0 w0 r. step_done c.in-Ok-Some.field-0 c.args.end.now c.in-Ok-Some.step s0 _ _ w0 _ _ c.args.window.now c.next_step.new.window c.skip.new.self c.in-Ok-Some.field-0-is c.in-Ok-Some.ensures.nexts c.in-Done.ensures.gave c.skip.ensures r

pub returns-in-Done-clause-goes : goal.returns-in-Done-clause-goes
returns-in-Done-clause-goes g c = λ e. step_goes c.in-Ok-Some.field-0 c.args.end.now c.in-Ok-Some.step _ _ c.args.window.now c.next_step.new.window c.skip.new.self c.in-Ok-Some.field-0-is c.in-Ok-Some.ensures.nexts c.skip.ensures

pub returns-in-Failed-clause-step : goal.returns-in-Failed-clause-step
returns-in-Failed-clause-step g c = λ s0 w0 r. step_unwritten c.in-Failed.ensures.gave.0 c.in-Ok-Some.field-0 c.args.end.now c.in-Ok-Some.step s0 _ _ w0 _ _ c.args.window.now c.next_step.new.window c.in-Ok-Some.field-0-is c.in-Ok-Some.ensures.nexts c.in-Failed.ensures.gave.1 r

pub returns-in-Ok-None-clause-step : goal.returns-in-Ok-None-clause-step
returns-in-Ok-None-clause-step g c = λ s0 w0 r. step_none c.in-Ok-None.field-0 c.args.end.now s0 _ _ w0 _ c.args.window.now c.next_step.new.window c.in-Ok-None.field-0-is c.in-Ok-None.ensures.nexts r

pub returns-in-Err-clause-step : goal.returns-in-Err-clause-step
returns-in-Err-clause-step g c = λ s0 w0 r. step_broken c.in-Err.fault c.args.end.now s0 _ _ w0 _ c.args.window.now c.next_step.new.window c.in-Err.ensures.nexts r
