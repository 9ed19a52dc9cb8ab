-- Where a subscription begins: a type in two bytes, and behind type 4 an offset, behind type 5 a time. It is one field,
-- so each fault is told at its first byte.
use Rattle.std.specs.Prelude.{◌≡◌, ◌<◌, ◌^◌, ◌⊎◌, ℕ, List, ◌++◌, length, Result, Ok, Err, FitsSigned, ◌==◌, if◌then◌else◌}
use Rattle.std.specs.Int.{w16, w64}
use Rattle.frame_wire.specs.Fields.{u16_bytes, u64_bytes, i64_bytes}
use Rattle.frame_wire.specs.Reading.{Spot, number_at, signed_at}
use Rattle.frame_wire.specs.Formats.{Format, Spelled, u16_field}
use Rattle.frame_wire.specs.Joins.{◌>>=◌, with_fault, within}
use Rattle.command_fields.specs.declared.fault.DecodeFault.{DecodeFault}
use Rattle.command_fields.specs.declared.fault.DecodeFault.TheVariants as faults
use Rattle.command_fields.specs.declared.offset.OffsetSpec.{OffsetSpec}
use Rattle.command_fields.specs.declared.offset.OffsetSpec.TheVariants.{Unset, First, Last, Next, At, Since}
use Rattle.command_fields.specs.Faults.{of_field, of_part}

abbrev pub spec_bytes : OffsetSpec → List ℕ
spec_bytes Unset = u16_bytes 0
spec_bytes First = u16_bytes 1
spec_bytes Last = u16_bytes 2
spec_bytes Next = u16_bytes 3
spec_bytes (At offset) = u16_bytes 4 ++ u64_bytes offset
spec_bytes (Since time) = u16_bytes 5 ++ i64_bytes time

abbrev pub IsSpec : OffsetSpec → Type 0
IsSpec Unset = Unit {0}
IsSpec First = Unit {0}
IsSpec Last = Unit {0}
IsSpec Next = Unit {0}
IsSpec (At offset) = offset < 2 ^ 64
IsSpec (Since time) = FitsSigned w64 time

abbrev pub offset_at : ℕ → Spot → Result (OffsetSpec × Spot) DecodeFault
offset_at place s = with_fault (of_part place) (number_at w64 s) >>= λ offset. Ok (At offset.0, offset.1)

abbrev pub time_at : ℕ → Spot → Result (OffsetSpec × Spot) DecodeFault
time_at place s = with_fault (of_part place) (signed_at s) >>= λ time. Ok (Since time.0, time.1)

-- what stands behind the type of a field that began at this place
abbrev pub behind_type : ℕ → ℕ → Spot → Result (OffsetSpec × Spot) DecodeFault
behind_type place kind s =
    if kind == 0 then Ok (Unset, s) else
    if kind == 1 then Ok (First, s) else
    if kind == 2 then Ok (Last, s) else
    if kind == 3 then Ok (Next, s) else
    if kind == 4 then offset_at place s else
    if kind == 5 then time_at place s else
    Err (faults.OffsetType place)

abbrev pub spec_at : Spot → Result (OffsetSpec × Spot) DecodeFault
spec_at s = with_fault of_field (number_at w16 s) >>= λ kind. behind_type s.at kind.0 kind.1

-- The type is none of 0 to 5, or the eight bytes behind type 4 or 5 are not whole.
abbrev pub WrongBehind : ℕ → ℕ → Spot → DecodeFault → Type 0
WrongBehind place kind s (faults.OffsetType at) = (5 < kind) × (at ≡ place)
WrongBehind place kind s (faults.Short at) = ((kind ≡ 4) ⊎ (kind ≡ 5)) × (length s.rest < 8) × (at ≡ place)
WrongBehind place kind s (faults.UnknownKey at) = ⊥
WrongBehind place kind s (faults.Version at) = ⊥
WrongBehind place kind s (faults.Long at) = ⊥
WrongBehind place kind s (faults.Negative at) = ⊥
WrongBehind place kind s (faults.Flag at) = ⊥

-- The type is not whole, or it is and it is wrong or what follows it.
abbrev pub SpecWrong : Spot → DecodeFault → Type 0
SpecWrong s fault = (within of_field u16_field).Wrong s fault ⊎ ((kind : ℕ) × (t : Spot) × Spelled u16_field s kind t × WrongBehind s.at kind t fault)

abbrev pub spec_field : Format OffsetSpec DecodeFault
spec_field = record { spell = spec_bytes; Fits = IsSpec; read = spec_at; Wrong = SpecWrong }

-- What a call gave is what reading gives: the value and where the reader then stands, or the fault, and the reader stays.
abbrev pub ReadsSpec : Result OffsetSpec DecodeFault → Spot → Spot → Result (OffsetSpec × Spot) DecodeFault → Type 0
ReadsSpec (Ok x) old new read = read ≡ Ok (x, new)
ReadsSpec (Err fault) old new read = (read ≡ Err fault) × (new ≡ old)
