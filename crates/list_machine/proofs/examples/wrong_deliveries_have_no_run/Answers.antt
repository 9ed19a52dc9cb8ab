use Rattle.list_machine.proofs.NoRuns.{no_run_uncredited, no_run_out_of_order, no_run_past_gap, no_run_of_delta, no_run_to_waiting}
use Rattle.list_machine.proofs.examples.wrong_deliveries_have_no_run.Goals as goal

pub returns-clause-uncredited : goal.returns-clause-uncredited
returns-clause-uncredited c = no_run_uncredited

pub returns-clause-out_of_order : goal.returns-clause-out_of_order
returns-clause-out_of_order c = no_run_out_of_order

pub returns-clause-past_gap : goal.returns-clause-past_gap
returns-clause-past_gap c = no_run_past_gap

pub returns-clause-of_delta : goal.returns-clause-of_delta
returns-clause-of_delta c = no_run_of_delta

pub returns-clause-to_waiting : goal.returns-clause-to_waiting
returns-clause-to_waiting c = no_run_to_waiting
