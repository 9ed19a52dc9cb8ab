-- An input that was read up to a fault.
use Rattle.std.proofs.Common.{◌≡◌, ℕ, List, ◌++◌, Option, Err, length-append, arith}
use Rattle.outside_io.specs.Known.{before_known}
use Rattle.outside_io.proofs.KnownLaws.{taken_more}
use Rattle.client_program.specs.Inputs.{Takes, Holds}
use Rattle.client_program.specs.declared.input.InputFault.{InputFault}
use Rattle.client_program.specs.declared.input.InputFault.TheVariants.{Read, TooLong, Memory}

-- a piece that could not be kept
pub stopped : (fault : InputFault) (text piece new : List ℕ) (left mid end : Option (List ℕ)) → left ≡ before_known text mid → mid ≡ before_known piece end → Holds (Err fault) piece text new → Takes (Err fault) left end
stopped Read text piece new left mid end p q holds = absurd holds
stopped TooLong text piece new left mid end p q holds = record { taken = text ++ piece; took = taken_more left mid end text piece p q; by = omega (arith, length-append text piece) }
stopped Memory text piece new left mid end p q holds = record { taken = text ++ piece; took = taken_more left mid end text piece p q; by = omega (arith, length-append text piece) }
