use Rattle.std.proofs.Common.{refl}
use Rattle.client_program.specs.Ends.{NotRead, NotMade, Does}
use Rattle.client_program.proofs.EndLaws.{made_at, ran}
use Rattle.client_program.proofs.program.client.Goals as goal

pub returns-in-Err-clause-does : goal.returns-in-Err-clause-does
returns-in-Err-clause-does g c = NotRead c.in-Err.fault c.in-Err.ensures.reads c.input_status.ensures refl

pub returns-in-Err-core_for-clause-does : goal.returns-in-Err-core_for-clause-does
returns-in-Err-core_for-clause-does g c =
    NotMade c.in-Ok.text c.in-Err-core_for.fault c.in-Ok.ensures.reads (made_at _ _ c.as_slice.result.now c.in-Ok.text c.as_slice.ensures c.in-Err-core_for.ensures) c.lines_status.ensures refl

pub returns-clause-does : goal.returns-clause-does
returns-clause-does g c =
    Does c.in-Ok.text c.in-Ok.ensures.reads
    (ran _ c.in-Ok.text _ _ _ _ _ _ _ _ _ _ _ _ _ (made_at _ _ c.as_slice.result.now c.in-Ok.text c.as_slice.ensures c.in-Ok-core_for.ensures) c.wanted_of-wanted.ensures c.run_client-end.ensures.runs.1 c.report.ensures.reports)
