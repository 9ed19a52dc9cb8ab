-- Reading the items of lists.
use Rattle.std.specs.Prelude.{◌≡◌, Result, Ok, Err}
use Rattle.frame_wire.specs.declared.fault.FieldFault.{FieldFault}
use Rattle.frame_wire.specs.declared.fault.ReadError.{ReadError}
use Rattle.frame_wire.specs.declared.fault.ReadError.TheVariants.{Fault, Memory}
use Rattle.frame_wire.specs.Reading.{Spot}

-- a list's faults are those of its fields
abbrev pub same_fault : FieldFault → FieldFault
same_fault fault = fault

-- the error of a call is the fault that reading has, or memory ran out
abbrev pub FailsAs : {X : Type 0} → ReadError → Result X FieldFault → Type 0
FailsAs (Fault fault) read = read ≡ Err fault
FailsAs Memory read = Unit {0}

-- What a call gave is what reading gives: the value and where the reader then stands, or an error.
abbrev pub Gives : {X : Type 0} → Result X ReadError → Spot → Result (X × Spot) FieldFault → Type 0
Gives (Ok x) new read = read ≡ Ok (x, new)
Gives (Err e) new read = FailsAs e read
