use Rattle.client_program.proofs.InputLaws.{stopped}
use Rattle.client_program.proofs.input.read_input.Goals as goal

pub returns-in-Err-clause-takes : goal.returns-in-Err-clause-takes
returns-in-Err-clause-takes g c = stopped c.in-Err.fault c.pieces.text _ c.hold.new.text _ _ _ c.pieces.invariant.took c.in-Got.ensures.took.2 c.in-Err.ensures
