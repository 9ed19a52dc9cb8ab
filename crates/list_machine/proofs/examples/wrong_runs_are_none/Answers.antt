use Rattle.list_machine.proofs.Waiting.{no_run_out_of_place, no_run_twice, no_run_of_lower_epoch, no_run_tag_twice, no_run_tag_falls, no_run_with_a_frame, no_run_with_a_command, no_run_with_an_end}
use Rattle.list_machine.proofs.examples.wrong_runs_are_none.Goals as goal

pub returns-clause-out_of_place : goal.returns-clause-out_of_place
returns-clause-out_of_place c = no_run_out_of_place

pub returns-clause-twice : goal.returns-clause-twice
returns-clause-twice c = no_run_twice

pub returns-clause-lower_epoch : goal.returns-clause-lower_epoch
returns-clause-lower_epoch c = no_run_of_lower_epoch

pub returns-clause-tag_twice : goal.returns-clause-tag_twice
returns-clause-tag_twice c = no_run_tag_twice

pub returns-clause-tag_falls : goal.returns-clause-tag_falls
returns-clause-tag_falls c = no_run_tag_falls

pub returns-clause-frame : goal.returns-clause-frame
returns-clause-frame c = no_run_with_a_frame

pub returns-clause-handling : goal.returns-clause-handling
returns-clause-handling c = no_run_with_a_command

pub returns-clause-end : goal.returns-clause-end
returns-clause-end c = no_run_with_an_end
