-- What a call that reads a command answers, beside what reading gives.
use Rattle.std.specs.Prelude.{◌≡◌, ℕ, Result, Ok, Err}
use Rattle.frame_wire.specs.declared.fault.FieldFault.{FieldFault}
use Rattle.frame_wire.specs.declared.fault.FieldFault.TheVariants as fields
use Rattle.frame_wire.specs.declared.fault.ReadError.{ReadError}
use Rattle.frame_wire.specs.declared.fault.ReadError.TheVariants as reads
use Rattle.frame_wire.specs.Reading.{Spot}
use Rattle.command_fields.specs.declared.fault.DecodeFault.{DecodeFault}
use Rattle.command_fields.specs.declared.fault.DecodeFault.TheVariants.{Short, Negative}
use Rattle.command_fields.specs.declared.fault.DecodeError.{DecodeError}
use Rattle.command_fields.specs.declared.fault.DecodeError.TheVariants as errors

-- a field's fault as a command's
abbrev pub of_field : FieldFault → DecodeFault
of_field (fields.Short place) = Short place
of_field (fields.Negative place) = Negative place

-- the fault of a part, told at the place where the whole field begins
abbrev pub of_part : ℕ → FieldFault → DecodeFault
of_part place (fields.Short at) = Short place
of_part place (fields.Negative at) = Negative place

abbrev pub error_of : ReadError → DecodeError
error_of (reads.Fault fault) = errors.Fault (of_field fault)
error_of reads.Memory = errors.Memory

-- the error of a call is the fault that reading has, or memory ran out
abbrev pub FailsWith : {X : Type 0} → DecodeError → Result X DecodeFault → Type 0
FailsWith (errors.Fault fault) read = read ≡ Err fault
FailsWith errors.Memory read = Unit {0}

-- What a call gave is what reading gives: the value and where the reader then stands, or an error.
abbrev pub GivesAt : {X : Type 0} → Result X DecodeError → Spot → Result (X × Spot) DecodeFault → Type 0
GivesAt (Ok x) new read = read ≡ Ok (x, new)
GivesAt (Err e) new read = FailsWith e read

-- The same of a whole body.
abbrev pub Gives : {X : Type 0} → Result X DecodeError → Result X DecodeFault → Type 0
Gives (Ok x) read = read ≡ Ok x
Gives (Err e) read = FailsWith e read

-- the call gave this value, or memory ran out
abbrev pub GivesOr : {X : Type 0} → Result X DecodeError → X → Type 0
GivesOr result x = Gives result (Ok x)

-- the call gave this fault, or memory ran out
abbrev pub RefusesOr : {X : Type 0} → Result X DecodeError → DecodeFault → Type 0
RefusesOr result fault = Gives result (Err fault)

-- the fault of a call, if it gave one
abbrev pub IfFault : {X : Type 0} → Result X DecodeError → (DecodeFault → Type 0) → Type 0
IfFault (Ok x) Holds = Unit {0}
IfFault (Err (errors.Fault fault)) Holds = Holds fault
IfFault (Err errors.Memory) Holds = Unit {0}
